-- Events that are within the bounds of numbers may be sent.
use Rattle.std.proofs.Common.{◌≡◌, ℕ, ◌^◌, ◌<◌, ◌≤◌, Bool, true, false, nat_le, List, [], ◌∷◌, length, Option, Some, None, refl}
use Rattle.std.proofs.lemmas.Bool.{leb-true, le-leb}
use Rattle.std.proofs.lemmas.Bool.Decides.{Decides-and, Decides-by_and, Decides-ltb}
use Rattle.std.specs.List.{AllByRecursion, list_all}
use Rattle.std.specs.Prelude.{All, Decides, IfSome, IsTrue}
use Rattle.h3_field.specs.Field.{Field, section_size}
use Rattle.h3_field.specs.ReadBack.{IsFieldOfBytes}
use Rattle.h3_header.specs.HeadTests.{takes_protocol}
use Rattle.h3_header.specs.NamedProtocolLaws.{named_taken}
use Rattle.h3_header.specs.ProtocolText.{IsProtocolBy}
use Rattle.h3_header.specs.Head.{Head as Fields, head_fields}
use Rattle.h3_header.specs.HeadRead.{IsHead, head_by}
use Rattle.h3_world.specs.Sendable.{IsSendable, IsSendableBy, IsSendableHead, IsSendableList, NamesTaken}
use Rattle.h3_world.specs.Setup.{Setup, both_take_any}
use Rattle.h3_world.specs.Small.{AreSmall, IsSmall}
use Rattle.h3_world.specs.declared.event.Event.{Event}
use Rattle.h3_world.specs.declared.event.Event.TheVariants as event
use Rattle.h3_session.specs.Typed.{IsHeader, IsTyped}
use Rattle.h3_session.proofs.NamedLists.{list_taken}

passes : (test : ℕ → Bool) (xs : List ℕ) → Decides (list_all test xs) (All (λ b. IsTrue (test b)) xs)
passes test xs = Decides-by_and test (λ b. IsTrue (test b)) (list_all test) (λ x. (λ e. e, λ e. e)) refl (λ x xs. refl) xs

at_most : (a b : ℕ) → Decides (nat_le a b) (a ≤ b)
at_most a b = (leb-true a b, le-leb a b)

-- what is a protocol is taken as one
protocol_taken : (any : Bool) (protocol : Option (List ℕ)) → IfSome protocol (IsProtocolBy any) → takes_protocol any protocol ≡ true
protocol_taken false protocol is = named_taken protocol is
protocol_taken true None is = refl
protocol_taken true (Some text) is = (Decides-and _ _ (Decides-and _ _ (Decides-ltb 0 (length text)) (passes _ text)) (at_most (length text) 31)).1 is

head_sendable : (any : Bool) (head : Fields) → IsHeader head → takes_protocol any head.protocol ≡ true → section_size (head_fields head) < 2 ^ 56 → IsSendableHead any head
head_sendable any head h taken small =
    record {
      taken = taken;
      reads_back = h.reads_back;
      section = record { of_bytes = h.of_bytes; small = small };
      read_as = h.read_as;
    }

list_sendable : (any : Bool) (fields : List Field) → AllByRecursion IsFieldOfBytes fields → ((head : Fields) → head_by true fields ≡ IsHead head → head_by any fields ≡ IsHead head) → section_size fields < 2 ^ 56 → IsSendableList any fields
list_sendable any fields of_bytes taken small = record { taken = taken; section = record { of_bytes = of_bytes; small = small } }

-- **What types hold, within the bounds of numbers.**
event_small : (e : Event) → IsTyped e → IsSmall e → IsSendableBy true e
event_small (event.OpenRequest side) h s = tt
event_small (event.Head side id head) h s = head_sendable true head h h.token s
event_small (event.Fields side id fields) h s = list_sendable true fields h (λ head is. is) s
event_small (event.Body side id bytes) h s = s
event_small (event.Trailer side id trailer) h s = head_sendable true trailer h h.token s
event_small (event.TrailerFields side id fields) h s = list_sendable true fields h (λ head is. is) s
event_small (event.Finish side id) h s = tt
event_small (event.Reset side id) h s = tt
event_small (event.Cancel side id) h s = tt
event_small (event.Goaway side id) h s = h
event_small (event.Deliver side id count) h s = tt
event_small (event.DeliverEnd side id) h s = tt
event_small (event.DeliverReset side id) h s = tt
event_small (event.Pull side id) h s = tt
event_small (event.PullFields side id) h s = tt
event_small (event.Show side) h s = tt

pub small_are_sendable : (events : List Event) → AllByRecursion IsTyped events → AreSmall events → AllByRecursion (IsSendableBy true) events
small_are_sendable [] h s = tt
small_are_sendable (e ∷ events) h s = (event_small e h.0 s.0, small_are_sendable events h.1 s.1)

-- **And where each side takes the protocols that are named.**
event_taken : (any : Bool) (e : Event) → NamesTaken any e → IsSendableBy true e → IsSendableBy any e
event_taken any (event.Head side id head) n h = record { taken = protocol_taken any head.protocol n; reads_back = h.reads_back; section = h.section; read_as = h.read_as }
event_taken any (event.Fields side id fields) n h = record { taken = list_taken any fields n; section = h.section }
event_taken any (event.Trailer side id trailer) n h = record { taken = protocol_taken any trailer.protocol n; reads_back = h.reads_back; section = h.section; read_as = h.read_as }
event_taken any (event.TrailerFields side id fields) n h = record { taken = list_taken any fields n; section = h.section }
event_taken any (event.Body side id bytes) n h = h
event_taken any (event.Goaway side id) n h = h
event_taken any (event.OpenRequest side) n h = tt
event_taken any (event.Finish side id) n h = tt
event_taken any (event.Reset side id) n h = tt
event_taken any (event.Cancel side id) n h = tt
event_taken any (event.Deliver side id count) n h = tt
event_taken any (event.DeliverEnd side id) n h = tt
event_taken any (event.DeliverReset side id) n h = tt
event_taken any (event.Pull side id) n h = tt
event_taken any (event.PullFields side id) n h = tt
event_taken any (event.Show side) n h = tt

all_taken : (any : Bool) (events : List Event) → AllByRecursion (NamesTaken any) events → AllByRecursion (IsSendableBy true) events → AllByRecursion (IsSendableBy any) events
all_taken any [] n h = tt
all_taken any (e ∷ events) n h = (event_taken any e n.0 h.0, all_taken any events n.1 h.1)

pub plain_are_sendable : (setup : Setup) (events : List Event) → AllByRecursion (NamesTaken (both_take_any setup)) events → AllByRecursion (IsSendableBy true) events → AllByRecursion (IsSendable setup) events
plain_are_sendable setup events taken h = all_taken (both_take_any setup) events taken h
