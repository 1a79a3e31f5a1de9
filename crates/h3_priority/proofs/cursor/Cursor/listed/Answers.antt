use Rattle.std.proofs.Common.{◌≡◌, sym, ◌∙◌}
use Rattle.h3_priority.proofs.ListLoop.{IsListed, same, shorter}
use Rattle.h3_priority.proofs.ListsShorter.{listed_next}
use Rattle.h3_priority.proofs.cursor.Cursor.listed.Goals as goal

pub items-init : goal.items-init
items-init c = rw c.take_all.ensures.rest (listed_next c.args.self.now)

-- the item that this round read
item_read : (c : goal.After-take_all-in-items) → IsListed c.items.self c.item.new.self c.take_all-in-items.new.self c.in_ok-item.field-0
item_read c =
    let kept : c.take.new.self ≡ c.items.self = rw c.items-test.true at c.take.ensures.rest in
    record {
      begins = sym c.take.ensures.begins ∙ c.items-test.true;
      read = rw kept at c.in_ok-item.ensures;
      over = sym c.is_at_end_of_item.ensures ∙ c.if-not-is_at_end_of_item.false;
      next_is = c.take_all-in-items.ensures.rest;
    }

pub items-smaller : goal.items-smaller
items-smaller c = shorter _ _ _ _ (item_read c)

pub items-preserved : goal.items-preserved
items-preserved c = c.items.invariant ∙ same _ _ _ _ (item_read c)
