-- The line's parts are put one behind the other, each with the room that those before it leave.
use Rattle.std.proofs.Common.{ℕ, ◌+◌, ◌≤◌, List, ◌++◌, length}
use Rattle.lister.specs.Text.{newline, space, status_word, decimal, decision_word, party_line}
use Rattle.lister.proofs.Placing.{room_first, four_second, four_third, four_fourth, four_put}
use Rattle.lister.proofs.text.put_line.Goals as goal

-- the parts
abbrev numbered : ℕ → List ℕ
numbered n = decimal n ++ space

abbrev status_part : ℕ → List ℕ
status_part status = status_word status ++ space

abbrev last_part : ℕ → ℕ → List ℕ
last_part status decision = decision_word status decision ++ newline

room : (party status steps decision at n : ℕ) → at + length (party_line party status steps decision) ≤ n
    → at + length (numbered party ++ (status_part status ++ (numbered steps ++ last_part status decision))) ≤ n
unfolding party_line
room party status steps decision at n h = h

pub put_number-a-requires : goal.put_number-a-requires
put_number-a-requires c =
    let a = c.args in
    room_first (numbered a.party) (status_part a.status ++ (numbered a.steps ++ last_part a.status a.decision)) _ _
    (room a.party a.status a.steps a.decision a.at _ c.requires)

pub put_status-b-requires : goal.put_status-b-requires
put_status-b-requires c =
    let a = c.args in
    four_second (numbered a.party) (status_part a.status) (numbered a.steps) (last_part a.status a.decision) (room a.party a.status a.steps a.decision a.at _ c.requires)
    c.put_number-a.ensures

pub put_number-c-requires : goal.put_number-c-requires
put_number-c-requires c =
    let a = c.args in
    four_third (numbered a.party) (status_part a.status) (numbered c.from.result) (last_part a.status a.decision) (room a.party a.status c.from.result a.decision a.at _ (rw c.from.ensures c.requires))
    c.put_number-a.ensures c.put_status-b.ensures

pub put_decision-requires : goal.put_decision-requires
put_decision-requires c =
    let a = c.args in
    four_fourth (numbered a.party) (status_part a.status) (numbered c.from.result) (last_part a.status a.decision) (room a.party a.status c.from.result a.decision a.at _ (rw c.from.ensures c.requires))
    c.put_number-a.ensures c.put_status-b.ensures c.put_number-c.ensures

pub returns : goal.returns
unfolding party_line
returns c =
    let a = c.args in
    rw c.from.ensures at
    (four_put (numbered a.party) (status_part a.status) (numbered c.from.result) (last_part a.status a.decision) (room a.party a.status c.from.result a.decision a.at _ (rw c.from.ensures c.requires))
    c.put_number-a.ensures c.put_status-b.ensures c.put_number-c.ensures c.put_decision.ensures)
