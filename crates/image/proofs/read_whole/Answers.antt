-- Each part is read from where it stands, over all of its array.
use Rattle.std.proofs.Common.{◌≡◌, ℕ, ◌-◌, length, take, drop, sym, ap, ◌∙◌, arith, rules}
use Rattle.std.proofs.lemmas.List.{length-take-le}
use borrow.Author.Rules.{part_to_end}
use Rattle.image.specs.Image.{party_from, parties_from, proposals_of}
use Rattle.image.specs.Sizes.{entry_length}
use Rattle.image.specs.Entries.{entries_of}
use Rattle.image.proofs.read_whole.Goals as goal

pub slice_bounds-copy_from_slice-end-2 : goal.slice_bounds-copy_from_slice-end-2
slice_bounds-copy_from_slice-end-2 c = sym (length-take-le 1898 c.args.bytes.now (omega (arith, c.requires)))

pub returns : goal.returns
returns c =
    let b = c.args.bytes.now in
    let sheet = c.copy_from_slice.ensures.after in
    let all : length c.args.s.now.proposals ≡ 16 = search rules in
    let every : length c.args.s.now.parties ≡ 16 = search rules in
    let proposals = c.read_all.ensures ∙ ap (λ (n : ℕ). proposals_of n (take (length b - 1898) (drop 1898 b))) all ∙ ap (proposals_of 16) (part_to_end b 1898) in
    let marks = c.copy_from_slice-2.ensures.after in
    let published = c.copy_from_slice-3.ensures.after in
    let parties = c.read_all-2.ensures ∙ ap (λ (n : ℕ). entries_of party_from entry_length n (take (length b - 3242) (drop 3242 b))) every ∙ ap parties_from (part_to_end b 3242) in
    λ i. record { sheet = sheet i; proposals = proposals i; marks = marks i; published = published i; parties = parties i }
