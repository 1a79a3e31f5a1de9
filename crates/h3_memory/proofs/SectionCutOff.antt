-- A head or a trailer is refused for memory, with anything kept at either side: the insertions that were made for a front of its fields stay, and
-- both endpoints stand in the world after them.
use Rattle.std.proofs.Common.{◌≡◌, ℕ, ◌*◌, ◌^◌, ◌<◌, ◌≤◌, Bool, true, false, List, [], ◌∷◌, ◌++◌, length, take, refl, sym, ap, ◌∙◌, subst, arith, append-nil, Option, Some, None, if◌then◌else◌}
use Rattle.std.specs.Prelude.{zero, suc}
use Rattle.std.specs.List.{AllByRecursion}
use Rattle.std.proofs.lemmas.List.Sums.{sum_by-cons}
use Rattle.h3_field.specs.Field.{Field, field_size, section_size}
use Rattle.h3_field.specs.ReadBack.{IsFieldOfBytes}
use Rattle.h3_qpack.specs.Encodings.{IsWrittenInstruction}
use Rattle.h3_qpack.specs.EncoderHistory.{EncoderHistory}
use Rattle.h3_proto.specs.declared.stream.Side.{Side}
use Rattle.h3_proto.specs.declared.stream.Side.TheVariants.{Client, Server}
use Rattle.h3_connection.specs.Endpoint.{EndpointHistory, Own}
use Rattle.h3_connection.specs.OwnIds.{other, encoder_id}
use Rattle.h3_connection.specs.Sections.{own_instructions}
use Rattle.h3_connection.specs.Sections as sections
use Rattle.h3_connection.specs.Refusals.{first_of, unless_going}
use Rattle.h3_connection.specs.StreamSets.{stream_at}
use Rattle.h3_connection.specs.declared.event.Refusal.{Refusal}
use Rattle.h3_connection.specs.declared.event.Refusal.TheVariants as refusal
use Rattle.h3_world.specs.Refused.{having_inserted_for, with_insertions}
use Rattle.h3_world.specs.Setup.{Setup}
use Rattle.h3_world.specs.Ends.{Ends, end_at, with_end}
use Rattle.h3_world.specs.Sound.{IsSoundWorld}
use Rattle.h3_world.specs.World.{World, party}
use Rattle.h3_headline.specs.Calls.{Both, Hears}
use Rattle.h3_headline.specs.Cited.{StreamLaws, Laws}
use Rattle.h3_headline.specs.SendingLaws.{both_of}
use Rattle.h3_headline.specs.Standing.{IsWritable, Stands}
use Rattle.h3_headline.specs.WritesMoreLaws.{encoder_stream_more}
use Rattle.h3_headline.specs.WritingLaws.{hears, party_writes, sound_party}
use Rattle.h3_memory.specs.Kept.{KeepingWorld, with_world}
use Rattle.h3_memory.specs.Keeping.{StandsKeeping}
use Rattle.h3_memory.specs.MemoryStep as memory_step
use Rattle.h3_memory.specs.Refused as refused
use Rattle.h3_memory.specs.Writing.{LeavesKept}
use Rattle.h3_memory.proofs.KeptLaws.{KeptLaws}
use Rattle.h3_memory.proofs.SendingEvents.{keeps_at, both_stay, stands_called}
use Rattle.h3_memory.proofs.WorldsWritten.{party_leaves}

all_joined : {X : Type 0} (P : X → Type 0) (xs ys : List X) → AllByRecursion P xs → AllByRecursion P ys → AllByRecursion P (xs ++ ys)
all_joined P [] ys h k = k
all_joined P (x ∷ xs) ys h k = (h.0, all_joined P xs ys h.1 k)

front_of_bytes : (n : ℕ) (fields : List Field) → AllByRecursion IsFieldOfBytes fields → AllByRecursion IsFieldOfBytes (take n fields)
front_of_bytes zero fields h = tt
front_of_bytes (suc n) [] h = tt
front_of_bytes (suc n) (f ∷ fields) h = (h.0, front_of_bytes n fields h.1)

front_is_smaller : (n : ℕ) (fields : List Field) → section_size (take n fields) ≤ section_size fields
front_is_smaller zero fields = omega arith
front_is_smaller (suc n) [] = omega arith
front_is_smaller (suc n) (f ∷ fields) = omega (arith, front_is_smaller n fields, sum_by-cons field_size f (take n fields), sum_by-cons field_size f fields)

few_inserted : (laws : StreamLaws) (setup : Setup) (w : World) (side : Side) → IsSoundWorld setup w → length (party w side).encoder.inserted < 2 ^ 62
few_inserted laws setup w side sound =
    let h = (sound_party setup w side sound).session in
    subst (λ (s : EncoderHistory). length s.inserted < 2 ^ 62) h.follows.encoder (laws.sound h.counts h.most 0 0 h.events h.session h.run).small

-- the endpoint, by what it wrote
abbrev inserted_by : EndpointHistory → ℕ → List Field → Own → EncoderHistory → EndpointHistory
inserted_by e id fields o s = record e { encoder = sections.having_inserted s id fields; own = record o { instructions = o.instructions ++ own_instructions s id fields } }

joined : (setup : Setup) (v : World) (ends : Ends) (side : Side) (e : EndpointHistory) → Both setup v side e (end_at ends (other side)) → IsSoundWorld setup v
    → (with_end ends side e).client.next_id ≡ 4 * length v.exchanges → 4 * length v.exchanges ≤ 2 ^ 62 → Stands setup v (with_end ends side e)
joined setup v ends Client e both sound next few =
    record {
      at_client = both.here;
      at_server = both.there;
      next_id = next;
      few = few;
      sound = sound;
      client_writes = both.writes_here;
      server_writes = both.writes_there;
      requests = both.sends_here;
      responses = both.sends_there;
    }
joined setup v ends Server e both sound next few =
    record {
      at_client = both.there;
      at_server = both.here;
      next_id = next;
      few = few;
      sound = sound;
      client_writes = both.writes_there;
      server_writes = both.writes_here;
      requests = both.sends_there;
      responses = both.sends_here;
    }

as_many : (w : World) (side : Side) (id : ℕ) (fields : List Field) → length (with_insertions w side id fields).exchanges ≡ length w.exchanges
as_many w Client id fields = refl
as_many w Server id fields = refl

same_next : (ends : Ends) (side : Side) (e : EndpointHistory) → e.next_id ≡ (end_at ends side).next_id → (with_end ends side e).client.next_id ≡ ends.client.next_id
same_next ends Client e same = same
same_next ends Server e same = refl

-- **The endpoints behind stand in the world after the insertions.**
pub cut_off_stands : (qpack : KeptLaws) (laws : Laws) (setup : Setup) (w : World) (ends : Ends) (side : Side) (id : ℕ) (fields : List Field) → AllByRecursion IsFieldOfBytes fields → section_size fields < 2 ^ 56
    → Stands setup w ends → Stands setup (with_insertions w side id fields) (with_end ends side (sections.with_insertions (end_at ends side) id fields))
cut_off_stands qpack laws setup w ends side id fields of_bytes small h =
    let e = end_at ends side in
    let f = end_at ends (other side) in
    let b = both_of setup w side ends h in
    let old = party w side in
    let q = having_inserted_for old id fields in
    let k = hears setup w side f b.there in
    let heard : Hears setup side q.own f =
    record {
      control = k.control;
      encoder_stream = encoder_stream_more setup (other side) old.own.encoder_taken old.own.instructions (own_instructions old.encoder id fields) (stream_at f.unidirectional (encoder_id (other (other side)))) f.encoder_on f.decoding
          (sound_party setup w side h.sound).writer.encoder k.encoder_stream;
      decoder_stream = k.decoder_stream;
    } in
    let writes : IsWritable side q.own =
    record {
      goaways = b.writes_here.goaways;
      instructions = all_joined IsWrittenInstruction old.own.instructions (own_instructions old.encoder id fields) b.writes_here.instructions
          (laws.written old.encoder id fields (few_inserted laws.streams setup w side h.sound) of_bytes small);
      replies = b.writes_here.replies;
      updates = b.writes_here.updates;
    } in
    let is : sections.with_insertions e id fields ≡ record e { own = q.own; encoder = q.encoder } =
    ap (λ (o : Own). inserted_by e id fields o e.encoder) b.here.own ∙ ap (λ s. inserted_by e id fields old.own s) b.here.encoder in
    let both : Both setup (with_insertions w side id fields) side (sections.with_insertions e id fields) f =
    subst (λ x. Both setup (with_insertions w side id fields) side x f) (sym is) (party_writes setup w side q e f b heard writes) in
    joined setup (with_insertions w side id fields) ends side (sections.with_insertions e id fields) both (qpack.insertions setup w side id fields h.sound)
    (same_next ends side (sections.with_insertions e id fields) refl ∙ h.next_id ∙ sym (ap (λ n. 4 * n) (as_many w side id fields)))
    (subst (λ n. 4 * n ≤ 2 ^ 62) (sym (as_many w side id fields)) h.few)

-- what is kept is left alone
inserts_leave : (setup : Setup) (w : World) (side : Side) (id : ℕ) (fields : List Field) → LeavesKept setup w (with_insertions w side id fields)
inserts_leave setup w side id fields =
    let p = party w side in
    party_leaves setup w side (having_inserted_for p id fields)
    (record { goaways = []; goaways_are = sym (append-nil p.own.goaways); instructions = own_instructions p.encoder id fields; instructions_are = refl; replies = []; replies_are = sym (append-nil p.own.replies) })
    (record { control = refl; encoder = refl; decoder = refl })

-- **And those that keep something.**
pub cut_off_keeps : (qpack : KeptLaws) (laws : Laws) (setup : Setup) (k : KeepingWorld) (ends : Ends) (side : Side) (id : ℕ) (fields : List Field) → AllByRecursion IsFieldOfBytes fields → section_size fields < 2 ^ 56
    → StandsKeeping setup k ends → StandsKeeping setup (with_world k (with_insertions k.world side id fields)) (with_end ends side (sections.with_insertions (end_at ends side) id fields))
cut_off_keeps qpack laws setup k ends side id fields of_bytes small h =
    let c = keeps_at setup k ends side h in
    let v = with_insertions k.world side id fields in
    let x = sections.with_insertions (end_at h.behind side) id fields in
    stands_called setup k v ends side h x (sections.with_insertions (end_at ends side) id fields) c.incoming (ap (λ e. sections.with_insertions e id fields) c.is) refl c.resumes c.distinct
    (cut_off_stands qpack laws setup k.world h.behind side id fields of_bytes small h.stands) (both_stay setup k v side (inserts_leave setup k.world side id fields))

-- of a front of the fields
front_cut : (qpack : KeptLaws) (laws : Laws) (setup : Setup) (k : KeepingWorld) (ends new : Ends) (side : Side) (id : ℕ) (fields : List Field) → AllByRecursion IsFieldOfBytes fields → section_size fields < 2 ^ 56 → StandsKeeping setup k ends
    → refused.CutsOff ends side id fields new → (next : KeepingWorld) × memory_step.CutsOff k side id fields next × StandsKeeping setup next new
front_cut qpack laws setup k ends new side id fields of_bytes small h c =
    let front = take c.front fields in (
      with_world k (with_insertions k.world side id front),
      record { front = c.front; within = c.within; inserted = refl },
      subst (StandsKeeping setup (with_world k (with_insertions k.world side id front))) (sym c.is)
          (cut_off_keeps qpack laws setup k ends side id front (front_of_bytes c.front fields of_bytes) (omega (arith, small, front_is_smaller c.front fields)) h),
    )

-- What a refused section leaves.
pub record CutKeeps (setup : Setup) (k : KeepingWorld) (new : Ends) (side : Side) (id : ℕ) (fields : List Field) (q : Option Refusal) : Type 0 where
  pub next : KeepingWorld
  pub cuts : memory_step.CutsSection q k side id fields next
  pub stands : StandsKeeping setup next new

-- No rule of strict messages refuses.
abbrev pub NeverMalformed : Option Refusal → Type 0
NeverMalformed (Some (refusal.Malformed why)) = ⊥
NeverMalformed o = Unit {0}

unless : (b : Bool) (o p : Option Refusal) → NeverMalformed o → NeverMalformed p → NeverMalformed (if b then o else p)
unless true o p h g = h
unless false o p h g = g

pub head_judged : (a b : Bool) (going : Option ℕ) (c d : Bool) (size : ℕ)
    → NeverMalformed (first_of ((a, refusal.NotOpen) ∷ (b, refusal.OutOfOrder) ∷ unless_going going ((c, refusal.WrongSide) ∷ (d, refusal.TooLarge size) ∷ [])))
head_judged a b going c d size = unless a (Some refusal.NotOpen) ordered tt (unless b (Some refusal.OutOfOrder) (begun going) tt (by_goaway going))
  where
    large : Option Refusal
    large = if d then Some (refusal.TooLarge size) else None

    begun : Option ℕ → Option Refusal
    begun o = first_of (unless_going o ((c, refusal.WrongSide) ∷ (d, refusal.TooLarge size) ∷ []))

    ordered : Option Refusal
    ordered = if b then Some refusal.OutOfOrder else begun going

    by_goaway : (o : Option ℕ) → NeverMalformed (begun o)
    by_goaway None = unless c (Some refusal.WrongSide) large tt (unless d (Some (refusal.TooLarge size)) None tt tt)
    by_goaway (Some last) = tt

pub trailer_judged : (a b c d : Bool) (size : ℕ) → NeverMalformed (first_of ((a, refusal.NotOpen) ∷ (b, refusal.OutOfOrder) ∷ (c, refusal.PseudoInTrailer) ∷ (d, refusal.TooLarge size) ∷ []))
trailer_judged a b c d size =
    let large : Option Refusal = if d then Some (refusal.TooLarge size) else None in
    let placed : Option Refusal = if c then Some refusal.PseudoInTrailer else large in
    let ordered : Option Refusal = if b then Some refusal.OutOfOrder else placed in
    unless a (Some refusal.NotOpen) ordered tt (unless b (Some refusal.OutOfOrder) placed tt (unless c (Some refusal.PseudoInTrailer) large tt (unless d (Some (refusal.TooLarge size)) None tt tt)))

-- **A section that would have been sent, or is too large.** The world judges none by the rules of strict messages.
pub section_cut : (qpack : KeptLaws) (laws : Laws) (setup : Setup) (k : KeepingWorld) (ends new : Ends) (side : Side) (id : ℕ) (fields : List Field) (q : Option Refusal) → NeverMalformed q → AllByRecursion IsFieldOfBytes fields
    → section_size fields < 2 ^ 56 → StandsKeeping setup k ends → refused.CutsSection q ends side id fields new → CutKeeps setup k new side id fields q
section_cut qpack laws setup k ends new side id fields None never of_bytes small h c = let x = front_cut qpack laws setup k ends new side id fields of_bytes small h c in record { next = x.0; cuts = x.1; stands = x.2 }
section_cut qpack laws setup k ends new side id fields (Some (refusal.Malformed why)) never of_bytes small h c = absurd never
section_cut qpack laws setup k ends new side id fields (Some (refusal.TooLarge size)) never of_bytes small h c = record { next = k; cuts = refl; stands = subst (StandsKeeping setup k) (sym c) h }
section_cut qpack laws setup k ends new side id fields (Some (refusal.Closed code)) never of_bytes small h c = absurd c
section_cut qpack laws setup k ends new side id fields (Some (refusal.Connection code)) never of_bytes small h c = absurd c
section_cut qpack laws setup k ends new side id fields (Some refusal.NotReceiving) never of_bytes small h c = absurd c
section_cut qpack laws setup k ends new side id fields (Some refusal.AfterEnd) never of_bytes small h c = absurd c
section_cut qpack laws setup k ends new side id fields (Some refusal.Kept) never of_bytes small h c = absurd c
section_cut qpack laws setup k ends new side id fields (Some refusal.NotClient) never of_bytes small h c = absurd c
section_cut qpack laws setup k ends new side id fields (Some (refusal.GoingAway last)) never of_bytes small h c = absurd c
section_cut qpack laws setup k ends new side id fields (Some refusal.IdsUsedUp) never of_bytes small h c = absurd c
section_cut qpack laws setup k ends new side id fields (Some refusal.NotOpen) never of_bytes small h c = absurd c
section_cut qpack laws setup k ends new side id fields (Some refusal.OutOfOrder) never of_bytes small h c = absurd c
section_cut qpack laws setup k ends new side id fields (Some refusal.WrongSide) never of_bytes small h c = absurd c
section_cut qpack laws setup k ends new side id fields (Some refusal.PseudoInTrailer) never of_bytes small h c = absurd c
section_cut qpack laws setup k ends new side id fields (Some refusal.Critical) never of_bytes small h c = absurd c
section_cut qpack laws setup k ends new side id fields (Some refusal.Ended) never of_bytes small h c = absurd c
section_cut qpack laws setup k ends new side id fields (Some refusal.NotRequestId) never of_bytes small h c = absurd c
section_cut qpack laws setup k ends new side id fields (Some (refusal.Raised earlier)) never of_bytes small h c = absurd c
section_cut qpack laws setup k ends new side id fields (Some refusal.OutOfMemory) never of_bytes small h c = absurd c

-- What a refused list leaves.
pub record ListCutKeeps (setup : Setup) (k : KeepingWorld) (new : Ends) (side : Side) (id : ℕ) (fields : List Field) (q : Option Refusal) : Type 0 where
  pub next : KeepingWorld
  pub cuts : memory_step.CutsList q k side id fields next
  pub stands : StandsKeeping setup next new

-- **And a list,** of which more is judged before.
pub list_cut : (qpack : KeptLaws) (laws : Laws) (setup : Setup) (k : KeepingWorld) (ends new : Ends) (side : Side) (id : ℕ) (fields : List Field) (q : Option Refusal) → AllByRecursion IsFieldOfBytes fields → section_size fields < 2 ^ 56
    → StandsKeeping setup k ends → refused.CutsList q ends side id fields new → ListCutKeeps setup k new side id fields q
list_cut qpack laws setup k ends new side id fields None of_bytes small h c = let x = front_cut qpack laws setup k ends new side id fields of_bytes small h c in record { next = x.0; cuts = x.1; stands = x.2 }
list_cut qpack laws setup k ends new side id fields (Some (refusal.TooLarge size)) of_bytes small h c = record { next = k; cuts = refl; stands = subst (StandsKeeping setup k) (sym c) h }
list_cut qpack laws setup k ends new side id fields (Some (refusal.Malformed why)) of_bytes small h c = record { next = k; cuts = (c.0, refl); stands = subst (StandsKeeping setup k) (sym c.1) h }
list_cut qpack laws setup k ends new side id fields (Some refusal.WrongSide) of_bytes small h c = record { next = k; cuts = (c.0, refl); stands = subst (StandsKeeping setup k) (sym c.1) h }
list_cut qpack laws setup k ends new side id fields (Some refusal.PseudoInTrailer) of_bytes small h c = record { next = k; cuts = (c.0, refl); stands = subst (StandsKeeping setup k) (sym c.1) h }
list_cut qpack laws setup k ends new side id fields (Some (refusal.Closed code)) of_bytes small h c = absurd c
list_cut qpack laws setup k ends new side id fields (Some (refusal.Connection code)) of_bytes small h c = absurd c
list_cut qpack laws setup k ends new side id fields (Some refusal.NotReceiving) of_bytes small h c = absurd c
list_cut qpack laws setup k ends new side id fields (Some refusal.AfterEnd) of_bytes small h c = absurd c
list_cut qpack laws setup k ends new side id fields (Some refusal.Kept) of_bytes small h c = absurd c
list_cut qpack laws setup k ends new side id fields (Some refusal.NotClient) of_bytes small h c = absurd c
list_cut qpack laws setup k ends new side id fields (Some (refusal.GoingAway last)) of_bytes small h c = absurd c
list_cut qpack laws setup k ends new side id fields (Some refusal.IdsUsedUp) of_bytes small h c = absurd c
list_cut qpack laws setup k ends new side id fields (Some refusal.NotOpen) of_bytes small h c = absurd c
list_cut qpack laws setup k ends new side id fields (Some refusal.OutOfOrder) of_bytes small h c = absurd c
list_cut qpack laws setup k ends new side id fields (Some refusal.Critical) of_bytes small h c = absurd c
list_cut qpack laws setup k ends new side id fields (Some refusal.Ended) of_bytes small h c = absurd c
list_cut qpack laws setup k ends new side id fields (Some refusal.NotRequestId) of_bytes small h c = absurd c
list_cut qpack laws setup k ends new side id fields (Some (refusal.Raised earlier)) of_bytes small h c = absurd c
list_cut qpack laws setup k ends new side id fields (Some refusal.OutOfMemory) of_bytes small h c = absurd c
