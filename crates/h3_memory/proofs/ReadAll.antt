-- All that a side keeps is read, or a part of it: the world stays sound, the rest can be read, and what is kept on the other side stays
-- readable.
use Rattle.std.proofs.Common.{◌≡◌, ℕ, ◌+◌, ◌-◌, ◌≤◌, Bool, true, false, not, ◌&&◌, ◌||◌, List, [], ◌∷◌, length, min, refl, sym, ap, ◌∙◌, subst, arith, if◌then◌else◌}
use Rattle.std.specs.Prelude.{◌==◌}
use Rattle.std.proofs.lemmas.Grind.{common_steps}
use Rattle.h3_proto.specs.declared.stream.Side.{Side}
use Rattle.h3_proto.specs.declared.stream.Side.TheVariants.{Client, Server}
use Rattle.h3_connection.specs.OwnIds.{other, is_own, control_id, decoder_id}
use Rattle.h3_world.specs.Setup.{Setup}
use Rattle.h3_world.specs.Delivering.{is_closed}
use Rattle.h3_world.specs.Refused.{held_back, with_replies_held}
use Rattle.h3_world.specs.Sound.{IsSoundWorld}
use Rattle.h3_world.specs.Streams.{flow, has_outgoing}
use Rattle.h3_world.specs.World.{World, party}
use Rattle.h3_headline.specs.FlowLaws.{flow-with_party, party-with_other, is_open-with_party}
use Rattle.h3_headline.specs.WritingLaws.{sound_party}
use Rattle.h3_memory.specs.Kept.{Delivery, Bytes, End, Reset, ReadsPart, held_bytes, read_delivery, read_deliveries}
use Rattle.h3_memory.specs.Kept.ReadsPart.{Stops, Reads, Cuts, HoldsBack}
use Rattle.h3_memory.specs.Keeping.{came_of, text_of, with_count}
use Rattle.h3_memory.specs.SoundKeeping.{CanBeRead}
use Rattle.h3_memory.specs.Writing.{WritesOn}
use Rattle.h3_memory.proofs.Growing.{may_grow}
use Rattle.h3_memory.proofs.KeptLaws.{KeptLaws}
use Rattle.h3_memory.proofs.OwnReads.{came_after, closed_after}
use Rattle.h3_memory.proofs.Reading.{read_sound}
use Rattle.h3_memory.proofs.ReadsLeave.{one_read, rest_readable}
use Rattle.h3_memory.proofs.SameSent.{SameSent, SameWritten, same_itself, same_then, same_writes, same_flow, same_text}
use Rattle.h3_memory.proofs.Written.{unchanged_on, on_then, grown_on, nothing_written, same_taken, nothing_sent, same_marks}

-- how many bytes of each stream came, and which streams were closed, once all are read
abbrev pub came_behind : (ℕ → ℕ) → List Delivery → ℕ → ℕ
came_behind came [] = came
came_behind came (d ∷ ds) = came_behind (came_after came d) ds

abbrev pub closed_behind : (ℕ → Bool) → List Delivery → ℕ → Bool
closed_behind closed [] = closed
closed_behind closed (d ∷ ds) = closed_behind (closed_after closed d) ds

after_same : (a b : ℕ → ℕ) (d : Delivery) → ((i : ℕ) → a i ≡ b i) → (i : ℕ) → came_after a d i ≡ came_after b d i
after_same a b (Bytes id count) same i = ap (λ n. if i == id then n + count else n) (same i)
after_same a b (End id) same i = same i
after_same a b (Reset id) same i = same i

behind_same : (a b : ℕ → ℕ) (ds : List Delivery) → ((i : ℕ) → a i ≡ b i) → (i : ℕ) → came_behind a ds i ≡ came_behind b ds i
behind_same a b [] same i = same i
behind_same a b (d ∷ ds) same i = behind_same (came_after a d) (came_after b d) ds (after_same a b d same) i

shut_same : (a b : ℕ → Bool) (d : Delivery) → ((i : ℕ) → a i ≡ b i) → (i : ℕ) → closed_after a d i ≡ closed_after b d i
shut_same a b (Bytes id count) same i = same i
shut_same a b (End id) same i = ap (λ c. if i == id then true else c) (same i)
shut_same a b (Reset id) same i = ap (λ c. if i == id then true else c) (same i)

shut_behind_same : (a b : ℕ → Bool) (ds : List Delivery) → ((i : ℕ) → a i ≡ b i) → (i : ℕ) → closed_behind a ds i ≡ closed_behind b ds i
shut_behind_same a b [] same i = same i
shut_behind_same a b (d ∷ ds) same i = shut_behind_same (closed_after a d) (closed_after b d) ds (shut_same a b d same) i

-- **All is read.**
pub record ReadsAll (setup : Setup) (w v : World) (writer : Side) (ds : List Delivery) : Type 0 where
  pub sound : IsSoundWorld setup v
  pub same : SameSent w v writer
  pub came : (i : ℕ) → came_of v writer i ≡ came_behind (came_of w writer) ds i
  pub closed : (i : ℕ) → is_closed v writer i ≡ closed_behind (is_closed w writer) ds i
  pub there : WritesOn setup w v (other writer)

pub all_read : (laws : KeptLaws) (setup : Setup) (w : World) (writer : Side) (ds : List Delivery) → IsSoundWorld setup w → CanBeRead setup w writer ds → ReadsAll setup w (read_deliveries setup w writer ds) writer ds
all_read laws setup w writer [] h may = record { sound = h; same = same_itself w writer; came = λ i. refl; closed = λ i. refl; there = unchanged_on setup w (other writer) }
all_read laws setup w writer (d ∷ ds) h may =
    let u = read_delivery setup w writer d in
    let v = read_deliveries setup u writer ds in
    let one = one_read setup w writer (came_of w writer) (is_closed w writer) d ds may in
    let rest = all_read laws setup u writer ds (read_sound laws setup w writer d ds h may) (rest_readable setup w u writer d ds one may) in
    record {
      sound = rest.sound;
      same = same_then w u v writer one.same rest.same;
      came = λ i. rest.came i ∙ behind_same (came_of u writer) (came_after (came_of w writer) d) ds one.came i;
      closed = λ i. rest.closed i ∙ shut_behind_same (is_closed u writer) (closed_after (is_closed w writer) d) ds one.closed i;
      there = on_then setup w u v (other writer) one.there rest.there;
    }

-- **A part is read.**
pub record ReadsSome (setup : Setup) (w v : World) (writer : Side) (left : List Delivery) : Type 0 where
  pub sound : IsSoundWorld setup v
  pub same : SameSent w v writer
  pub may : CanBeRead setup v writer left
  pub there : WritesOn setup w v (other writer)

then_some : (setup : Setup) (w u v : World) (writer : Side) (left : List Delivery) → SameSent w u writer → WritesOn setup w u (other writer) → ReadsSome setup u v writer left → ReadsSome setup w v writer left
then_some setup w u v writer left same there rest =
    record { sound = rest.sound; same = same_then w u v writer same rest.same; may = rest.may; there = on_then setup w u v (other writer) there rest.there }

itself : (n : ℕ) → (n == n) ≡ true
itself n = grind (arith, common_steps)

-- a delivery in two
pub two_readable : (setup : Setup) (w : World) (writer : Side) (id first second : ℕ) (ds : List Delivery) → CanBeRead setup w writer (Bytes id (first + second) ∷ ds) → CanBeRead setup w writer (Bytes id first ∷ Bytes id second ∷ ds)
two_readable setup w writer id first second ds may =
    let came = came_of w writer in
    let here : with_count came id first id ≡ came id + first = ap (λ b. if b then came id + first else came id) (itself id) in (
      may.0,
      may.1,
      omega (arith, may.2),
      (
        may.0,
        may.1,
        omega (arith, here, may.2),
        may_grow setup w w writer (with_count came id (first + second)) (with_count (with_count came id first) id second) (is_closed w writer) (is_closed w writer) ds (same_writes setup w w writer (same_itself w writer))
            (λ i. by_test (i == id) (came i)) (λ i. refl) may.3,
      ),
    )
  where
    by_test : (b : Bool) (n : ℕ) → (if b then (if b then n + first else n) + second else (if b then n + first else n)) ≡ (if b then n + (first + second) else n)
    by_test true n = omega arith
    by_test false n = refl

-- What a decoder wrote before the settings came is read behind them.
pub held_same : (w : World) (writer : Side) → SameSent w (held_back w writer) writer
held_same w writer =
    record {
      own = own writer;
      flows = λ i. subst (Rattle.h3_memory.proofs.SameSent.SameFlow (flow w writer i)) (sym (flow-with_party w writer writer (with_replies_held (party w writer)) i)) (same_flow (flow w writer i));
      opens = λ i. is_open-with_party w writer writer (with_replies_held (party w writer)) i;
    }
  where
    own : (s : Side) → SameWritten (party w s).own (party (held_back w s) s).own
    own Client = record { goaways = refl; instructions = refl; replies = refl }
    own Server = record { goaways = refl; instructions = refl; replies = refl }

pub held_there : (setup : Setup) (w : World) (writer : Side) → WritesOn setup w (held_back w writer) (other writer)
held_there setup w writer =
    grown_on setup w u (other writer)
    (record {
      own = subst (λ q. Rattle.h3_memory.proofs.Written.OwnGrows (party w (other writer)).own q.own) (sym same) (nothing_written (party w (other writer)).own);
      flows = λ i. subst (Rattle.h3_memory.proofs.Written.FlowGrows (flow w (other writer) i)) (sym (flow-with_party w writer (other writer) (with_replies_held (party w writer)) i)) (nothing_sent (flow w (other writer) i));
      opened = λ i e. is_open-with_party w writer (other writer) (with_replies_held (party w writer)) i ∙ e;
    })
    (record {
      taken = subst (λ q. Rattle.h3_memory.proofs.Written.SameTaken (party w (other writer)).own q.own) (sym same) (same_taken (party w (other writer)).own);
      marks = λ i. subst (Rattle.h3_memory.proofs.Written.SameMarks (flow w (other writer) i)) (sym (flow-with_party w writer (other writer) (with_replies_held (party w writer)) i)) (same_marks (flow w (other writer) i));
    })
  where
    u : World
    u = held_back w writer

    same : party u (other writer) ≡ party w (other writer)
    same = party-with_other w writer (with_replies_held (party w writer))

differ : (i n m : ℕ) → (n == m) ≡ false → (i == n) ≡ true → (i == m) ≡ true → ⊥
differ i n m off e f = grind (arith, common_steps, off, e, f)

-- as much came once both are read
abbrev came_by : Bool → Bool → Bool → ℕ → ℕ → ℕ → ℕ → ℕ
came_by a b t x y z f = if (a || b || t) then (if a then x else (if b then y else (if t then z else 0))) else f

held_count : (a b t : Bool) (x y z f count : ℕ) → (a ≡ true → t ≡ true → ⊥) → (b ≡ true → t ≡ true → ⊥)
    → (if t then (if a then came_by a b t x y (min 1 z) f + count else came_by a b t x y (min 1 z) f) + (z - 1) else (if a then came_by a b t x y (min 1 z) f + count else came_by a b t x y (min 1 z) f))
    ≡ (if a then came_by a b t x y z f + count else came_by a b t x y z f)
held_count true b true x y z f count first second = absurd (first refl refl)
held_count true b false x y z f count first second = refl
held_count false true true x y z f count first second = absurd (second refl refl)
held_count false true false x y z f count first second = refl
held_count false false true x y z f count first second = omega arith
held_count false false false x y z f count first second = refl

pub held_came : (w : World) (writer : Side) (count i : ℕ)
    → with_count (with_count (came_of (held_back w writer) writer) (control_id writer) count) (decoder_id writer) ((party w writer).own.decoder_taken - 1) i ≡ with_count (came_of w writer) (control_id writer) count i
held_came w Client count i =
    held_count (i == 2) (i == 6) (i == 10) w.client.own.control_taken w.client.own.encoder_taken w.client.own.decoder_taken (flow w Client i).delivered count (differ i 2 10 refl) (differ i 6 10 refl)
held_came w Server count i =
    held_count (i == 3) (i == 7) (i == 11) w.server.own.control_taken w.server.own.encoder_taken w.server.own.decoder_taken (flow w Server i).delivered count (differ i 3 11 refl) (differ i 7 11 refl)

-- the decoder stream has so many bytes
held_fits : (setup : Setup) (w : World) (writer : Side) (count : ℕ) → IsSoundWorld setup w
    → with_count (came_of (held_back w writer) writer) (control_id writer) count (decoder_id writer) + ((party w writer).own.decoder_taken - 1) ≤ length (text_of setup (held_back w writer) writer (decoder_id writer))
held_fits setup w Client count h = fits w.client.own.decoder_taken _ (sound_party setup w Client h).writer.decoder
  where
    fits : (n m : ℕ) → n ≤ m → min 1 n + (n - 1) ≤ m
    fits n m h = omega (arith, h)
held_fits setup w Server count h = fits w.server.own.decoder_taken _ (sound_party setup w Server h).writer.decoder
  where
    fits : (n m : ℕ) → n ≤ m → min 1 n + (n - 1) ≤ m
    fits n m h = omega (arith, h)

control_came : (w : World) (writer : Side) → came_of (held_back w writer) writer (control_id writer) ≡ came_of w writer (control_id writer)
control_came w Client = refl
control_came w Server = refl

decoder_outgoing : (w : World) (writer : Side) → has_outgoing w writer (decoder_id writer) ≡ true
decoder_outgoing w Client = refl
decoder_outgoing w Server = refl

decoder_goes : (w : World) (writer : Side) → is_closed w writer (decoder_id writer) ≡ false
decoder_goes w Client = refl
decoder_goes w Server = refl

pub held_readable : (setup : Setup) (w : World) (writer : Side) (count : ℕ) (ds : List Delivery) → IsSoundWorld setup w → CanBeRead setup w writer (Bytes (control_id writer) count ∷ ds)
    → CanBeRead setup (held_back w writer) writer (Bytes (control_id writer) count ∷ held_bytes w writer ∷ ds)
held_readable setup w writer count ds h may =
    let u = held_back w writer in
    let id = control_id writer in
    let same = held_same w writer in
    let writes = same_writes setup w u writer same in
    let closed : (i : ℕ) → is_closed u writer i ≡ is_closed w writer i = λ i. ap (λ f. not (is_own writer i) && (f.ended || f.reset_came)) (flow-with_party w writer writer (with_replies_held (party w writer)) i) in (
      writes.outgoing id may.0,
      closed id ∙ may.1,
      omega (arith, control_came w writer, ap length (same_text setup w u writer same id), may.2),
      (
        decoder_outgoing u writer,
        decoder_goes u writer,
        held_fits setup w writer count h,
        may_grow setup w u writer (with_count (came_of w writer) id count) (with_count (with_count (came_of u writer) id count) (decoder_id writer) ((party w writer).own.decoder_taken - 1)) (is_closed w writer) (is_closed u writer) ds writes
            (held_came w writer count) closed may.3,
      ),
    )

pub part_read : (laws : KeptLaws) (setup : Setup) (writer : Side) {w v : World} {ds left : List Delivery} → ReadsPart setup writer w ds v left → IsSoundWorld setup w → CanBeRead setup w writer ds → ReadsSome setup w v writer left
part_read laws setup writer {w = w} Stops h may = record { sound = h; same = same_itself w writer; may = may; there = unchanged_on setup w (other writer) }
part_read laws setup writer {w = w} {v = v} {left = left} (Reads d {ds = ds} rest) h may =
    let u = read_delivery setup w writer d in
    let one = one_read setup w writer (came_of w writer) (is_closed w writer) d ds may in
    then_some setup w u v writer left one.same one.there (part_read laws setup writer rest (read_sound laws setup w writer d ds h may) (rest_readable setup w u writer d ds one may))
part_read laws setup writer {w = w} (Cuts id first second {ds = ds} rest) h may = part_read laws setup writer rest h (two_readable setup w writer id first second ds may)
part_read laws setup writer {w = w} {v = v} {left = left} (HoldsBack count {ds = ds} unknown rest) h may =
    then_some setup w (held_back w writer) v writer left (held_same w writer) (held_there setup w writer)
    (part_read laws setup writer rest (laws.held setup w writer unknown h) (held_readable setup w writer count ds h may))
