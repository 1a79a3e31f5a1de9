use Rattle.std.proofs.Common.{◌≡◌, ◌+◌, ◌<◌, ◌≤◌, ℕ, suc, List, ◌∷◌, [], ◌++◌, length, arith, append_assoc, length-append, ap, ◌∙◌}
use Rattle.h3_field.specs.Integer.{groups}
use Rattle.h3_field.specs.IntegerSteps.{Left}
use Rattle.h3_field.specs.IntegerWritingLaws.{left_more, groups_some}
use Rattle.h3_field.proofs.prefix_int.put_groups.Goals as goal

-- what a vector has grown by, with one byte more
grown_more : (start items new : List ℕ) (byte before len more : ℕ) → new ≡ items ++ byte ∷ [] → more ≡ len + 1 → len + length start ≡ before + length items → more + length start ≡ before + length new
grown_more start items new byte before len more e m g =
    let l : length new ≡ length items + 1 = ap length e ∙ length-append items (byte ∷ []) in
    omega (arith, l, m, g)

-- of the room for all bytes there is some left while a group is to be written
room_left : (start items : List ℕ) (first all rest before len room : ℕ) → Left start items first all rest → len + length start ≡ before + length items → before + length (first ∷ groups 9 all) ≤ room → len < room
room_left start items first all rest before len room l g r =
    let some = groups_some l.most rest in
    let written = length-append items (groups (suc l.most) rest) in
    let whole = length-append start (first ∷ groups 9 all) in
    let same = ap length l.same in
    omega (arith, some, written, whole, same, g, r)

pub loop-left-init : goal.loop-left-init
loop-left-init c = record {
  written = record { front = c.args.first ∷ []; kept = c.push_reserved.ensures.items; most = 8; below = omega (arith, c.requires.rest); same = rw c.push_reserved.ensures.items (append_assoc c.args.buf.now.items (c.args.first ∷ []) _) };
  grown = grown_more _ _ _ _ _ _ _ c.push_reserved.ensures.items c.push_reserved.ensures.len (omega arith);
  same_room = c.push_reserved.ensures.capacity;
}

pub loop-left-preserved : goal.loop-left-preserved
loop-left-preserved c =
    let i = c.loop-left.invariant in
    record {
      written = left_more _ _ _ _ _ _ i.written c.loop-left-test.true c.push_reserved-in-loop-left.ensures.items;
      grown = grown_more _ _ _ _ _ _ _ c.push_reserved-in-loop-left.ensures.items c.push_reserved-in-loop-left.ensures.len i.grown;
      same_room = c.push_reserved-in-loop-left.ensures.capacity ∙ i.same_room;
    }

pub push_reserved-requires-in-loop-left : goal.push_reserved-requires-in-loop-left
push_reserved-requires-in-loop-left c =
    let i = c.loop-left.invariant in
    rw i.same_room (room_left _ _ _ _ _ _ _ _ i.written i.grown c.requires.room)

pub push_reserved-requires-2 : goal.push_reserved-requires-2
push_reserved-requires-2 c =
    let i = c.loop-left.invariant in
    rw i.same_room (room_left _ _ _ _ _ _ _ _ i.written i.grown c.requires.room)
