-- After j turns the first j bytes stand at the start, and past them all is as it was.
use Prim.Native.Nat.{ℕ}
use mathlib.Core.Path.{◌≡◌, sym, ap, ◌∙◌}
use mathlib.Core.List.{List, ◌++◌}
use native.Mathlib.Nat.{zero-add}
use native.Mathlib.Numerals.{add-one}
use native.Mathlib.Omega.{arith}
use lib.ListN.{length, get_or, set, take, drop}
use lib.Seq.{paste, paste-suc, take_all}
use Rattle.image.proofs.put_sheet.Goals as goal

pub loop-j-preserved : goal.loop-j-preserved
loop-j-preserved c =
    let l = c.loop-j in
    let o = c.args.o.now in
    let sheet = c.args.sheet.now in
    ap (λ (z : List ℕ). set z l.j (get_or sheet l.j 0)) l.invariant
    ∙ ap (λ (i : ℕ). set (paste o 0 sheet l.j) i (get_or sheet l.j 0)) (sym (zero-add l.j))
    ∙ paste-suc o 0 sheet l.j 0 (omega arith) (omega arith)
    ∙ ap (paste o 0 sheet) (sym (add-one l.j))

pub returns : goal.returns
returns c =
    let l = c.loop-j in
    let o = c.args.o.now in
    let sheet = c.args.sheet.now in
    let all : l.j ≡ length sheet = omega arith in
    l.invariant
    ∙ ap (λ (i : ℕ). take l.j sheet ++ drop i o) (zero-add l.j)
    ∙ ap (λ (z : List ℕ). z ++ drop l.j o) (take_all l.j sheet c.loop-j-test.false)
    ∙ ap (λ (i : ℕ). sheet ++ drop i o) all
