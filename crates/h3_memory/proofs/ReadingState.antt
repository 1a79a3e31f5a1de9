-- A reader that keeps something, and its writer, between two steps of reading: what is left to be read counts as not delivered.
use Rattle.std.proofs.Common.{◌≡◌, ◌⊎◌, ℕ, ◌+◌, ◌≤◌, Bool, true, false, List, [], ◌∷◌, refl, sym, ◌∙◌, arith, nat_le, if◌then◌else◌, Some, None}
use Rattle.std.specs.Prelude.{◌==◌}
use Rattle.std.proofs.lemmas.Grind.{common_steps}
use Rattle.h3_proto.specs.declared.stream.Side.{Side}
use Rattle.h3_connection.specs.declared.arrival.Arrival.{Arrival}
use Rattle.h3_connection.specs.Endpoint.{EndpointHistory}
use Rattle.h3_connection.specs.Incoming.{Incoming}
use Rattle.h3_connection.specs.OwnIds.{other, control_id, decoder_id}
use Rattle.h3_connection.specs.StreamSets.{Streams, HaveDistinctIds}
use Rattle.h3_world.specs.Setup.{Setup}
use Rattle.h3_world.specs.Delivering.{is_closed}
use Rattle.h3_world.specs.World.{World, party}
use Rattle.h3_headline.specs.Standing.{StandsAt, are_settings_there}
use Rattle.h3_memory.specs.Kept.{Delivery, read_delivery}
use Rattle.h3_memory.specs.Keeping.{Held, AreKept, ComesFirst, EachResumes, MayAllBeRead, ahead, came_of, held_of, text_of}
use Rattle.h3_memory.proofs.Growing.{kept_on, may_on}
use Rattle.h3_memory.proofs.OwnReads.{came_after}
use Rattle.h3_memory.proofs.ReadDeliveries.{MayBeRead, read_on}
use Rattle.h3_memory.proofs.ReadingEnds.{Two, handed, handed_both, handed_distinct}

-- The reader, where these arrivals are left of what it kept, and nothing else.
pub record ReadsAt (setup : Setup) (w : World) (side : Side) (mine ds : List Delivery) (er f : EndpointHistory) (arrivals : List Arrival) : Type 0 where
  pub held : Held
  pub incoming : Streams Incoming
  pub is : f ≡ ahead er mine held incoming []
  pub resumes : EachResumes side er.announced er.incoming incoming
  pub kept : AreKept (text_of setup w (other side)) (came_of w (other side)) (held_of (other side) held) ds arrivals
  pub may : MayAllBeRead setup w (other side) (came_of w (other side)) (is_closed w (other side)) ds
  pub early : er.peer.settings ≡ None → (held.decoder ≡ []) ⊎ ComesFirst (decoder_id (other side)) arrivals
  pub untold : (id : ℕ) → came_of w (other side) id ≡ 0 → held_of (other side) held id ≡ []
  pub distinct : HaveDistinctIds er.outgoing

-- The writer, which keeps what it did of the reader.
pub record WritesAt (setup : Setup) (w : World) (side : Side) (mine ds : List Delivery) (ew g : EndpointHistory) : Type 0 where
  pub held : Held
  pub incoming : Streams Incoming
  pub arrivals : List Arrival
  pub is : g ≡ ahead ew ds held incoming arrivals
  pub resumes : EachResumes (other side) ew.announced ew.incoming incoming
  pub kept : AreKept (text_of setup w side) (came_of w side) (held_of side held) mine arrivals
  pub may : MayAllBeRead setup w side (came_of w side) (is_closed w side) mine
  pub early : ew.peer.settings ≡ None → (held.decoder ≡ []) ⊎ ComesFirst (decoder_id side) arrivals
  pub untold : (id : ℕ) → came_of w side id ≡ 0 → held_of side held id ≡ []
  pub distinct : HaveDistinctIds ew.outgoing

pub record Reading (setup : Setup) (w : World) (side : Side) (mine ds : List Delivery) (f g : EndpointHistory) (arrivals : List Arrival) : Type 0 where
  pub er : EndpointHistory
  pub ew : EndpointHistory
  pub two : Two setup w side er ew
  pub here : ReadsAt setup w side mine ds er f arrivals
  pub there : WritesAt setup w side mine ds ew g

-- The writer, once a delivery has been read.
pub writes_after : (setup : Setup) (w : World) (side : Side) (mine : List Delivery) (d : Delivery) (ds : List Delivery) (ew g : EndpointHistory) → MayBeRead setup w (other side) d ds
    → WritesAt setup w side mine (d ∷ ds) ew g → WritesAt setup (read_delivery setup w (other side) d) side mine ds (handed ew (d ∷ [])) g
writes_after setup w side mine d ds ew g may t =
    let r = (read_on setup w side d ds may).reader in
    let v = read_delivery setup w (other side) d in
    record {
      held = t.held;
      incoming = t.incoming;
      arrivals = t.arrivals;
      is = t.is ∙ sym (handed_both ew d ds t.held t.incoming t.arrivals);
      resumes = t.resumes;
      kept = kept_on setup w v side (held_of side t.held) mine t.arrivals r t.may t.kept;
      may = may_on setup w v side mine r t.may;
      early = t.early;
      untold = λ id e. t.untold id (sym (r.came id) ∙ e);
      distinct = handed_distinct ew.outgoing (d ∷ []) t.distinct;
    }

-- no less came
pub came_more : (came : ℕ → ℕ) (d : Delivery) (i : ℕ) → came i ≤ came_after came d i
came_more came (Rattle.h3_memory.specs.Kept.Bytes id count) i = by_id (i == id)
  where
    by_id : (b : Bool) → came i ≤ (if b then came i + count else came i)
    by_id true = omega arith
    by_id false = omega arith
came_more came (Rattle.h3_memory.specs.Kept.End id) i = omega arith
came_more came (Rattle.h3_memory.specs.Kept.Reset id) i = omega arith

pub none_before : (came : ℕ → ℕ) (d : Delivery) (i n : ℕ) → n ≡ came_after came d i → n ≡ 0 → came i ≡ 0
none_before came d i n is none = omega (arith, came_more came d i, is, none)

control_came_is : (w : World) (side : Side) → came_of w side (control_id side) ≡ (party w side).own.control_taken
control_came_is w Rattle.h3_proto.specs.declared.stream.Side.TheVariants.Client = refl
control_came_is w Rattle.h3_proto.specs.declared.stream.Side.TheVariants.Server = refl

longer_fits : (len few many : ℕ) → few ≤ many → nat_le len few ≡ true → nat_le len many ≡ true
longer_fits len few many h e = grind (arith, common_steps, h, e)

-- **Settings that were known stay so.**
pub still_unknown : (setup : Setup) (w v : World) (side : Side) (e x : EndpointHistory) → StandsAt setup w side e → StandsAt setup v side x
    → came_of w (other side) (control_id (other side)) ≤ came_of v (other side) (control_id (other side)) → x.peer.settings ≡ None → e.peer.settings ≡ None
still_unknown setup w v side e x h k further unknown =
    h.control.settings ∙ by_before (are_settings_there setup (other side) few) refl (are_settings_there setup (other side) many) refl (sym k.control.settings ∙ unknown)
  where
    few : ℕ
    few = (party w (other side)).own.control_taken

    many : ℕ
    many = (party v (other side)).own.control_taken

    more : few ≤ many
    more = omega (arith, further, control_came_is w (other side), control_came_is v (other side))

    known : List (ℕ × ℕ)
    known = Rattle.h3_headline.specs.Standing.with_meaning (Rattle.h3_world.specs.Setup.announced_at setup (other side)).settings

    by_before : (b : Bool) → are_settings_there setup (other side) few ≡ b → (c : Bool) → are_settings_there setup (other side) many ≡ c → (if c then Some known else None) ≡ None → (if b then Some known else None) ≡ None
    by_before false e c f none = refl
    by_before true e true f none = none
    by_before true e false f none = absurd (clash f (longer_fits _ few many more e))
      where
        clash : {c : Bool} → c ≡ false → c ≡ true → ⊥
        clash e f = grind (arith, e, f)
