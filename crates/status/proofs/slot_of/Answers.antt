-- What the search tells of the members is their slot.
use Rattle.std.proofs.Common.{◌≡◌, eqb, take, rules, tests}
use Rattle.std.specs.List.{position}
use Rattle.std.proofs.lemmas.Iterator.{YieldsList-from_slice}
use Rattle.std.proofs.lemmas.Iterator.Search.{position_from_yields_List}
use Rattle.lists.proofs.Slots.{position_is_slot}
use Rattle.status.proofs.slot_of.Goals as goal

pub returns : goal.returns
returns c =
    let a = c.args in
    let members = take a.n a.status.now in
    let found : c.position.result ≡ position (λ m. eqb m a.o) members =
    position_from_yields_List (λ m. eqb m a.o) _ _ c.position.result c.position.ensures.ran (YieldsList-from_slice members cc) (λ x b q k. search (rules, tests)) in
    rw (c.unwrap_or.ensures, found, c.members_of-members.ensures) (position_is_slot _ members)
