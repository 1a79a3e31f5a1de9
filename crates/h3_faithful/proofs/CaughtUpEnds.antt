-- An end reads all that it keeps without a fault, beside the same end that judges plainly. Both ends then stand in the world that has caught up.
use Rattle.std.proofs.Common.{◌≡◌, ℕ, ◌≤◌, Bool, true, List, [], ◌∷◌, drop, take, refl, sym, ap, ◌∙◌, subst, None}
use Rattle.h3_proto.specs.declared.stream.Side.{Side}
use Rattle.h3_proto.specs.declared.stream.Side.TheVariants.{Client, Server}
use Rattle.h3_connection.specs.Control.{Found}
use Rattle.h3_connection.specs.Endpoint.{EndpointHistory, bytes_waiting}
use Rattle.h3_connection.specs.Keeping.{read_all, read_arrival, settles, unkept, unless_faulty}
use Rattle.h3_connection.specs.OwnIds.{other}
use Rattle.h3_connection.specs.Shown as shown
use Rattle.h3_connection.specs.declared.arrival.Arrival.{Arrival}
use Rattle.h3_world.specs.Ends.{Ends, end_at, with_end}
use Rattle.h3_world.specs.Setup.{IsMadeSetup, Setup, announced_at}
use Rattle.h3_world.specs.Streams.{has_outgoing}
use Rattle.h3_world.specs.World.{World}
use Rattle.h3_memory.specs.Kept.{KeepingWorld, caught_up, is_settled}
use Rattle.h3_memory.specs.Keeping.{StandsKeeping, came_of, text_of}
use Rattle.h3_memory.specs.ReadsNext.{ReadsNext}
use Rattle.h3_strict.specs.HoldsBehind.{HoldsBehind, having_read}
use Rattle.h3_strict.specs.PlainEnds.{plain_ends, plain_setup}
use Rattle.h3_strict.specs.Plainly.{plainly}
use Rattle.h3_strict.specs.ReadsBehind.{ReadsBehind}
use Rattle.h3_strict.specs.Tunnels.{StandsSo}
use Rattle.h3_faithful.proofs.AnyPull.{end_set, set_twice}
use Rattle.h3_faithful.proofs.BehindBoth.{first_behind}
use Rattle.h3_faithful.proofs.PlainMemory.{at_end, sets_end}

-- `what_is_kept_is_read_in_order` of `h3_memory`, and `tunnels_stand_whatever_is_kept` of `h3_strict`
pub record KeptLaws : Type 0 where
  pub first : (setup : Setup) (k : KeepingWorld) (ends : Ends) (side : Side) (a : Arrival) (arrivals : List Arrival) → IsMadeSetup setup → StandsKeeping setup k ends → (end_at ends side).kept ≡ a ∷ arrivals → ReadsNext setup k ends side a arrivals
  pub none : (setup : Setup) (k : KeepingWorld) (ends : Ends) (side : Side) → StandsKeeping setup k ends → (end_at ends side).kept ≡ [] → caught_up setup k side ≡ k.world
  pub waits : (setup : Setup) (k : KeepingWorld) (ends : Ends) (side : Side) (id count : ℕ) → StandsKeeping setup k ends → (end_at ends side).kept ≡ []
      → shown.has_outgoing (end_at ends (other side)) id ≡ true → count ≤ shown.waiting (end_at ends (other side)) id
      → (has_outgoing k.world (other side) id ≡ true) × (take count (bytes_waiting (end_at ends (other side)) id) ≡ take count (drop (came_of k.world (other side) id) (text_of setup k.world (other side) id)))
  pub settles : (setup : Setup) (k : KeepingWorld) (ends : Ends) (side : Side) (id : ℕ) → StandsKeeping setup k ends → settles (end_at ends side) id ≡ is_settled k.world side id
  pub holds : (setup : Setup) (strict : Bool) → IsMadeSetup setup → ((side : Side) → (announced_at setup side).choices.strict_messages ≡ strict) → HoldsBehind setup (StandsSo strict setup)
  pub reads : (setup : Setup) (w : World) (side : Side) (e next : EndpointHistory) (a : Arrival) → IsMadeSetup setup → ReadsBehind setup w side e a → read_arrival (plainly e) a ≡ (next, None)
      → ((read_arrival e a).1 ≡ None) × (plainly (read_arrival e a).0 ≡ next)

-- One arrival is read, so that the rest is read from there.
reads_then : (arrivals : List Arrival) (x : Found) (next last : EndpointHistory) → x ≡ (next, None) → read_all arrivals next ≡ (last, None) → unless_faulty (read_all arrivals) x ≡ (last, None)
reads_then arrivals x next last is rest = ap (unless_faulty (read_all arrivals)) is ∙ rest

same_unkept : (ends : Ends) (side : Side) → (end_at ends side).kept ≡ [] → with_end ends side (unkept (end_at ends side)) ≡ ends
same_unkept ends Client none = ap (λ l. record ends { client = record ends.client { kept = l } }) (sym none)
same_unkept ends Server none = ap (λ l. record ends { server = record ends.server { kept = l } }) (sym none)

kept_plainly : (ends : Ends) (side : Side) → (end_at (plain_ends ends) side).kept ≡ (end_at ends side).kept
kept_plainly ends side = ap (λ (e : EndpointHistory). e.kept) (at_end ends side)

-- The end once it has read them, where P holds in the world before that.
pub record CaughtUp (setup : Setup) (P : World → Ends → Type 0) (side : Side) (w : World) (k : KeepingWorld) (ends : Ends) (arrivals : List Arrival) : Type 0 where
  pub next : EndpointHistory
  pub none : next.kept ≡ []
  pub reads : read_all arrivals (unkept (end_at ends side)) ≡ (next, None)
  pub reads_plainly : read_all arrivals (unkept (plainly (end_at ends side))) ≡ (plainly next, None)
  pub after : KeepingWorld
  pub stands : StandsKeeping (plain_setup setup) after (plain_ends (with_end ends side next))
  pub world : after.world ≡ caught_up (plain_setup setup) k side
  pub keeps : P w (with_end ends side next)

-- The end once it has read the first of them.
record ReadsOne (setup : Setup) (P : World → Ends → Type 0) (side : Side) (w : World) (k : KeepingWorld) (ends : Ends) (a : Arrival) (arrivals : List Arrival) : Type 0 where
  none : (read_arrival (unkept (end_at ends side)) a).0.kept ≡ []
  read : read_arrival (unkept (end_at ends side)) a ≡ ((read_arrival (unkept (end_at ends side)) a).0, None)
  read_plainly : read_arrival (unkept (plainly (end_at ends side))) a ≡ (plainly (read_arrival (unkept (end_at ends side)) a).0, None)
  world : KeepingWorld
  stands : StandsKeeping (plain_setup setup) world (plain_ends (with_end ends side (having_read (end_at ends side) a arrivals)))
  caught : caught_up (plain_setup setup) world side ≡ caught_up (plain_setup setup) k side
  keeps : P w (with_end ends side (having_read (end_at ends side) a arrivals))

unkept_then : (x : EndpointHistory) → x.kept ≡ [] → unkept x ≡ x
unkept_then x none = ap (λ l. record x { kept = l }) (sym none)

module _ (laws : KeptLaws) (setup : Setup) (made : IsMadeSetup setup) (made_plainly : IsMadeSetup (plain_setup setup)) (P : World → Ends → Type 0) (holds : HoldsBehind setup P) (side : Side) where
  abbrev ps : Setup
  ps = plain_setup setup

  reads_one : (a : Arrival) (arrivals : List Arrival) (w : World) (k : KeepingWorld) (ends : Ends) → (end_at ends side).kept ≡ a ∷ arrivals → StandsKeeping ps k (plain_ends ends) → P w ends → ReadsOne setup P side w k ends a arrivals
  reads_one a arrivals w k ends kept stands p = record {
    none = ap (λ (x : EndpointHistory). x.kept) found.1 ∙ first.none;
    read = ap (λ c. let y : Found = ((read_arrival (unkept e) a).0, c) in y) found.0;
    read_plainly = first_plainly ∙ ap (λ x. let y : Found = (x, None) in y) (sym found.1);
    world = first.world;
    stands = subst (StandsKeeping ps first.world) (sym (sets_end ends side (having_read e a arrivals) ∙ ap (λ x. with_end (plain_ends ends) side (record x { kept = arrivals })) found.1)) first.stands;
    caught = first.caught;
    keeps = holds.reads w ends side a arrivals p;
  }
    where
      e : EndpointHistory
      e = end_at ends side

      first : ReadsNext ps k (plain_ends ends) side a arrivals
      first = laws.first ps k (plain_ends ends) side a arrivals made_plainly stands (kept_plainly ends side ∙ kept)

      first_plainly : read_arrival (unkept (plainly (end_at ends side))) a ≡ (first.next, None)
      first_plainly = ap (λ x. read_arrival (unkept x) a) (sym (at_end ends side)) ∙ first.reads

      found : ((read_arrival (unkept (end_at ends side)) a).1 ≡ None) × (plainly (read_arrival (unkept (end_at ends side)) a).0 ≡ first.next)
      found = laws.reads setup k.world side (unkept e) first.next a made (first_behind setup k ends stands (holds.announced w ends p) side a arrivals kept) first_plainly

  -- and then the rest
  extends : (a : Arrival) (arrivals : List Arrival) (w : World) (k : KeepingWorld) (ends : Ends) (one : ReadsOne setup P side w k ends a arrivals)
      → CaughtUp setup P side w one.world (with_end ends side (having_read (end_at ends side) a arrivals)) arrivals → CaughtUp setup P side w k ends (a ∷ arrivals)
  extends a arrivals w k ends one rest = record {
    next = rest.next;
    none = rest.none;
    reads = reads_then arrivals (read_arrival (unkept e) a) n rest.next one.read (ap (read_all arrivals) (sym (unkept_then n one.none)) ∙ ap (λ x. read_all arrivals (unkept x)) (sym (end_set ends side (having_read e a arrivals))) ∙ rest.reads);
    reads_plainly = reads_then arrivals (read_arrival (unkept (plainly e)) a) (plainly n) (plainly rest.next) one.read_plainly
        (ap (λ x. read_all arrivals (plainly x)) (sym (unkept_then n one.none)) ∙ ap (λ x. read_all arrivals (unkept (plainly x))) (sym (end_set ends side (having_read e a arrivals))) ∙ rest.reads_plainly);
    after = rest.after;
    stands = subst (λ x. StandsKeeping (plain_setup setup) rest.after (plain_ends x)) (set_twice ends side (having_read e a arrivals) rest.next) rest.stands;
    world = rest.world ∙ one.caught;
    keeps = subst (P w) (set_twice ends side (having_read e a arrivals) rest.next) rest.keeps;
  }
    where
      e : EndpointHistory
      e = end_at ends side

      n : EndpointHistory
      n = (read_arrival (unkept e) a).0

  -- **All that is kept.**
  pub catches_up : (arrivals : List Arrival) (w : World) (k : KeepingWorld) (ends : Ends) → (end_at ends side).kept ≡ arrivals → StandsKeeping ps k (plain_ends ends) → P w ends → CaughtUp setup P side w k ends arrivals
  catches_up [] w k ends kept stands p = record {
    next = unkept (end_at ends side);
    none = refl;
    reads = refl;
    reads_plainly = refl;
    after = k;
    stands = subst (λ x. StandsKeeping (plain_setup setup) k (plain_ends x)) (sym (same_unkept ends side kept)) stands;
    world = sym (laws.none ps k (plain_ends ends) side stands (kept_plainly ends side ∙ kept));
    keeps = subst (P w) (sym (same_unkept ends side kept)) p;
  }
  catches_up (a ∷ arrivals) w k ends kept stands p =
      let one = reads_one a arrivals w k ends kept stands p in
      extends a arrivals w k ends one
      (catches_up arrivals w one.world (with_end ends side (having_read (end_at ends side) a arrivals)) (ap (λ (x : EndpointHistory). x.kept) (end_set ends side (having_read (end_at ends side) a arrivals))) one.stands one.keeps)
