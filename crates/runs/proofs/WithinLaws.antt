-- A record stands at the fronts of the slices that were lent for it.
use Rattle.std.specs.Prelude.{Ok}
use Rattle.std.proofs.Common.{◌≡◌, ℕ, ◌≤◌, List, length, length-append, arith}
use Rattle.runs.specs.declared.call.Counts.{Counts}
use Rattle.runs.specs.Calls.{Room, Answer, made, refused, room_after}
use Rattle.runs.specs.Ran.{numbered, answer_of}

pub recorded : (a : Answer) (room : Room) {room' : Room} {c : Counts} → numbered {A = Counts} (Ok c) ≡ answer_of a → room' ≡ room_after a room → (c.items ≤ length room'.rows) × (c.cells ≤ length room'.store)
recorded (made r) room {room'} {c} e w =
    let i : c ≡ record { items = length r.rows; cells = length r.store } = (cc) in
    rw (w, i) (omega (arith, length-append {A = List ℕ}), omega (arith, length-append {A = ℕ}))
recorded (refused m) room e w = absurd (cc)
