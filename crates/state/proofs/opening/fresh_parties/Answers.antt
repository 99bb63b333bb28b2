-- The entry at each place is the fresh party of the next number, or past the parties an unused one.
use Rattle.std.proofs.Common.{sym, ◌∙◌, ℕ, ◌+◌, cond, ltb, arith, rules, tests}
use Rattle.std.proofs.lemmas.List.{ext_get_or}
use Rattle.state.specs.Session.{fresh_party, no_party}
use Rattle.state.specs.declared.kept.Party.{Party}
use Rattle.state.proofs.Filled.{fresh_at, fresh_long}
use Rattle.state.proofs.FromFn.{made_at}
use Rattle.state.proofs.opening.fresh_parties.Goals as goal

entry : ℕ → ℕ → Party
entry n i = cond (ltb i n) (fresh_party (i + 1)) no_party

pub returns : goal.returns
unfolding entry
returns c =
    let n = c.args.n in
    let made = c.from_fn.ensures.items in
    ext_get_or no_party c.from_fn.result _ (made.long ∙ sym (fresh_long n)) (λ k l.
    made_at (entry n) (λ i y q e. search (rules, tests)) c.from_fn.result 16 made k no_party (omega (arith, made.long)) ∙ sym (fresh_at n k (omega (arith, made.long))))
