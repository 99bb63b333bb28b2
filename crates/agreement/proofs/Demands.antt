-- An accepted sheet keeps every rule, so what is proved of reached sessions is demand 3 of each of them.
use Prim.Native.Nat.{ℕ}
use mathlib.Core.List.{List}
use Rattle.sheet.specs.Rows.{parties_of}
use Rattle.rules.specs.Words.{Rules6}
use Rattle.rules.proofs.Theorems.{answers}
use Rattle.state.specs.declared.kept.Session.{Session}
use Rattle.steps.specs.Reach.{Reached}
use Rattle.steps.proofs.Agreement.{agreement}
use Rattle.steps.proofs.StepLimits.{reached_limit, reached_decides}
use Rattle.agreement.specs.Demand.{Opens, Demand}

pub rules : {sheet proposals : List ℕ} → Opens sheet proposals → Rules6 sheet
rules {sheet} o = (answers sheet).accepted.0 o.accepted

pub demand : (sheet proposals : List ℕ) → Opens sheet proposals → {s : Session} → Reached sheet proposals s → Demand (parties_of sheet) proposals s
demand sheet proposals o R =
    let h = agreement sheet proposals (rules o) o.count R in
    record {
      holder = h.0;
      agreed = h.1;
      most = reached_limit sheet proposals (rules o) R;
      decides = reached_decides sheet proposals (rules o) R;
    }
