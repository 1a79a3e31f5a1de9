-- What a pull answers where no part is looked at.
use Rattle.std.proofs.Common.{◌≡◌, true, false, arith, Bool, ap, subst, Some, refl, Option, None, if◌then◌else◌, ℕ}
use Rattle.std.proofs.lemmas.Grind.{common_steps}
use Rattle.std.specs.Prelude.{is_some, unwrap_or, ◌%◌, ◌==◌}
use Rattle.h3_connection.specs.declared.event.Pull.{Pull}
use Rattle.h3_connection.specs.declared.event.Fault.TheVariants.{Stream}
use Rattle.h3_connection.specs.declared.event.Item.TheVariants as item
use Rattle.h3_connection.specs.declared.event.Pull.TheVariants as pull
use Rattle.h3_connection.specs.declared.event.StreamFault.{StreamFault}
use Rattle.h3_proto.specs.StreamIds.{is_request_stream}
use Rattle.h3_proto.specs.declared.stream.Side.{Side}
use Rattle.h3_connection.specs.OwnIds.{other, control_id}
use Rattle.h3_connection.specs.Pulling.{is_client}
use Rattle.h3_world.specs.Order.{is_over}
use Rattle.h3_world.specs.Pulling.{own_delivered, pull_unidirectional, pull_unopened, settled}
use Rattle.h3_world.specs.Streams.{flow, is_open}
use Rattle.h3_world.specs.World.{World}
use Rattle.h3_headline.specs.Pulls.{LooksOn, SaysNothing, by_rules}

differ : false ≡ true → ⊥
differ h = grind (arith, common_steps, h)

is_value : (over : Bool) (p q : Pull) → SaysNothing over p → Some p ≡ Some q → SaysNothing over q
is_value over p q h e = subst (SaysNothing over) (ap (λ o. unwrap_or o p) e) h

rules_say : (unidirectional request there : Bool) (fault : Option StreamFault) (over : Bool) (one unopened q : Pull) → SaysNothing over one → SaysNothing over unopened
    → by_rules unidirectional request there fault over one unopened ≡ Some q → SaysNothing over q
rules_say true request there fault over one unopened q h k e = is_value over one q h e
rules_say false false there fault over one unopened q h k e = is_value over pull.NoMessages q (record { contents = refl; ends = λ x. absurd (differ x) }) e
rules_say false true false fault over one unopened q h k e = is_value over unopened q k e
rules_say false true true (Some fault) over one unopened q h k e = is_value over (pull.Fault (Stream fault)) q (record { contents = refl; ends = λ x. absurd (differ x) }) e
rules_say false true true None true one unopened q h k e = is_value true (pull.Item item.End) q (record { contents = refl; ends = λ x. refl }) e
rules_say false true true None false one unopened q h k e = cc

pause_or_none : (b over : Bool) → SaysNothing over (if b then pull.Pending else pull.NoMessages)
pause_or_none true over = record { contents = refl; ends = λ x. absurd (differ x) }
pause_or_none false over = record { contents = refl; ends = λ x. absurd (differ x) }

none_or_pause : (b over : Bool) → SaysNothing over (if b then pull.NoMessages else pull.Pending)
none_or_pause true over = record { contents = refl; ends = λ x. absurd (differ x) }
none_or_pause false over = record { contents = refl; ends = λ x. absurd (differ x) }

pub settled_says : (w : World) (side : Side) (i : ℕ) (q : Pull) → settled w side i ≡ Some q → SaysNothing (is_over (flow w (other side) i)) q
settled_says w side i q e =
    let over = is_over (flow w (other side) i) in
    rules_say (i % 4 == control_id (other side)) (is_request_stream i) (is_open w side i) (flow w (other side) i).fault over (pull_unidirectional w (other side) i) (pull_unopened side) q
    (pause_or_none (own_delivered w (other side) i == 0) over) (none_or_pause (is_client side) over) e

-- of a stream that was given up no end is handed out either
rules_gone : (unidirectional request there : Bool) (fault : Option StreamFault) (over : Bool) (one unopened q : Pull) → SaysNothing false one → SaysNothing false unopened → is_some fault ≡ true
    → by_rules unidirectional request there fault over one unopened ≡ Some q → SaysNothing false q
rules_gone true request there fault over one unopened q h k gone e = is_value false one q h e
rules_gone false false there fault over one unopened q h k gone e = is_value false pull.NoMessages q (record { contents = refl; ends = λ x. absurd (differ x) }) e
rules_gone false true false fault over one unopened q h k gone e = is_value false unopened q k e
rules_gone false true true (Some fault) over one unopened q h k gone e = is_value false (pull.Fault (Stream fault)) q (record { contents = refl; ends = λ x. absurd (differ x) }) e
rules_gone false true true None over one unopened q h k gone e = absurd (differ gone)

pub settled_gone : (w : World) (side : Side) (i : ℕ) (q : Pull) → is_some (flow w (other side) i).fault ≡ true → settled w side i ≡ Some q → SaysNothing false q
settled_gone w side i q gone e =
    rules_gone (i % 4 == control_id (other side)) (is_request_stream i) (is_open w side i) (flow w (other side) i).fault (is_over (flow w (other side) i)) (pull_unidirectional w (other side) i) (pull_unopened side) q
    (pause_or_none (own_delivered w (other side) i == 0) false) (none_or_pause (is_client side) false) gone e

rules_alive : (unidirectional request there : Bool) (fault : Option StreamFault) (over : Bool) (one unopened : Pull) → by_rules unidirectional request there fault over one unopened ≡ None → is_some fault ≡ false
rules_alive true request there fault over one unopened e = cc
rules_alive false false there fault over one unopened e = cc
rules_alive false true false fault over one unopened e = cc
rules_alive false true true (Some fault) over one unopened e = cc
rules_alive false true true None over one unopened e = refl

pub settled_alive : (w : World) (side : Side) (i : ℕ) → settled w side i ≡ None → is_some (flow w (other side) i).fault ≡ false
settled_alive w side i e =
    rules_alive (i % 4 == control_id (other side)) (is_request_stream i) (is_open w side i) (flow w (other side) i).fault (is_over (flow w (other side) i)) (pull_unidirectional w (other side) i) (pull_unopened side) e

rules_look : (unidirectional request there : Bool) (fault : Option StreamFault) (over : Bool) (one unopened : Pull) → by_rules unidirectional request there fault over one unopened ≡ None → LooksOn there over
rules_look true request there fault over one unopened e = cc
rules_look false false there fault over one unopened e = cc
rules_look false true false fault over one unopened e = cc
rules_look false true true (Some fault) over one unopened e = cc
rules_look false true true None true one unopened e = cc
rules_look false true true None false one unopened e = record { is_there = refl; not_over = refl }

pub settled_none : (w : World) (side : Side) (i : ℕ) → settled w side i ≡ None → LooksOn (is_open w side i) (is_over (flow w (other side) i))
settled_none w side i e =
    rules_look (i % 4 == control_id (other side)) (is_request_stream i) (is_open w side i) (flow w (other side) i).fault (is_over (flow w (other side) i)) (pull_unidirectional w (other side) i) (pull_unopened side) e
