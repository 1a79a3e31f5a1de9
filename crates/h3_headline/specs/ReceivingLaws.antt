-- What a receiver keeps of a flow when bytes of it come, its end or its reset.
use Rattle.std.proofs.Common.{ℕ, ◌<◌, List, length, arith, ◌-◌, ◌^◌, length-append, ◌≡◌, ◌+◌, lit<, ◌⊎◌, inl, inr, refl, Option, Some, None, true, false, take, drop, sym, ap, ◌∙◌, nat_lt, [], ◌∷◌, ◌++◌, append-nil, append_assoc, take-append-drop, zero, suc, subst, if◌then◌else◌}
use Rattle.h3_coding.specs.Encodings.{IsEncoding, one, two, four, eight, encoding}
use Rattle.h3_coding.specs.EncodingLaws.{encoding_is_valid}
use Rattle.h3_frames.specs.Encoded.{head_encoding, frame_encoding}
use Rattle.h3_world.specs.Flow.{Flow, Section, Part, part_bytes, flow_bytes}
use Rattle.h3_world.specs.Sound.{WaitsBefore, IsSoundFlow, WaitsForNext, OutOfNext}
use Rattle.h3_world.specs.Flow.Part.{Interim, Head, Body, Trailer, End}
use Rattle.h3_world.specs.World.{Party}
use Rattle.h3_world.specs.Order.{next_part, is_over, is_end, section_of_part}
use Rattle.std.specs.List.{flat_map, concat, AllByRecursion}
use Rattle.std.specs.Prelude.{◌&&◌, slice_get, is_some}
use Rattle.std.proofs.lemmas.Grind.{common_steps}
use Rattle.h3_connection.specs.Incoming.{nothing_came, given_up, Incoming}
use Rattle.h3_connection.specs.Delivering.{kept, with_end, given_up_by, given_up_once}
use Rattle.std.proofs.lemmas.List.Folds.{concat-append}
use Rattle.h3_frames.specs.Pieces.{with_piece}
use Rattle.std.proofs.lemmas.List.{drop-drop}
use Rattle.h3_connection.specs.declared.event.StreamFault.{StreamFault}
use Rattle.h3_headline.specs.Arriving.{come, ended_flow, flow_given_up, reset_flow}
use Rattle.h3_headline.specs.PartLaws.{part_at}
use Rattle.h3_headline.specs.Standing.{HasBytes, ReadsFlow, ReceivesFlow, StandsBefore, WaitsIn, place_after, section_frame}

encoding_bytes : (v : ℕ) (bytes : List ℕ) → IsEncoding v bytes → 0 < length bytes
encoding_bytes v bytes (one f) = omega (arith, f.count)
encoding_bytes v bytes (two f) = omega (arith, f.count)
encoding_bytes v bytes (four f) = omega (arith, f.count)
encoding_bytes v bytes (eight f) = omega (arith, f.count)

-- an encoding has bytes
pub encoding_some : (v : ℕ) → v < 2 ^ 62 → 0 < length (encoding v)
encoding_some v h = encoding_bytes v (encoding v) (encoding_is_valid v h)

some_bytes : (kind : ℕ) (payload : List ℕ) → 0 < length (encoding kind) → 0 < length (frame_encoding kind payload)
some_bytes kind payload some =
    omega (arith, some, length-append (head_encoding kind (length payload)) payload, length-append (encoding kind) (encoding (length payload)))

-- a section's bytes have not come while nothing has
section_not_come : (f : Flow) (s : Section) (before : ℕ) → f.delivered ≡ 0 → s.own_length ≡ before + length (frame_encoding 1 s.encoded) → WaitsBefore f s → f.waits_for ≡ 0
section_not_come f s before none at h = absurd (omega (arith, none, at, h.1, some_bytes 1 s.encoded (encoding_some 1 (lit< tt))))

unseen_waits : (p : Party) (f : Flow) → IsSoundFlow p f → f.delivered ≡ 0 → f.waits_for ≡ 0
unseen_waits p f sound none = by_waits sound.waits
  where
    at : (part : Option Part) → next_part f ≡ part → WaitsForNext f part → f.waits_for ≡ 0
    at None e h = absurd h
    at (Some (Interim s)) e h = section_not_come f s _ none (part_at p f (Interim s) sound e).sent.1 h
    at (Some (Head s)) e h = section_not_come f s _ none (part_at p f (Head s) sound e).sent.1 h
    at (Some (Trailer s)) e h = section_not_come f s _ none (part_at p f (Trailer s) sound e).sent.1 h
    at (Some (Body bytes own)) e h = absurd h
    at (Some End) e h = absurd h

    by_waits : (f.waits_for ≡ 0) ⊎ WaitsForNext f (next_part f) → f.waits_for ≡ 0
    by_waits (inl e) = e
    by_waits (inr h) = at (next_part f) refl h

unseen_body : (p : Party) (f : Flow) → IsSoundFlow p f → f.delivered ≡ 0 → f.body_out ≡ 0
unseen_body p f sound none = by_out sound.body_out
  where
    at : (part : Option Part) → OutOfNext f part → f.body_out ≡ 0
    at None h = absurd h
    at (Some (Interim s)) h = absurd h
    at (Some (Head s)) h = absurd h
    at (Some (Trailer s)) h = absurd h
    at (Some (Body bytes own)) h = omega (arith, none, h.1)
    at (Some End) h = absurd h

    by_out : (f.body_out ≡ 0) ⊎ OutOfNext f (next_part f) → f.body_out ≡ 0
    by_out (inl e) = e
    by_out (inr h) = at (next_part f) h

-- Of a flow of which nothing was seen nothing is kept.
pub nothing_seen : (p : Party) (f : Flow) → IsSoundFlow p f → f.seen ≡ false → f.fault ≡ None → ReceivesFlow f nothing_came
nothing_seen p f sound unseen alive =
    let none = sound.unseen unseen in
    record {
      fault = sym alive;
      ended = sym none.2;
      was_reset = sym none.3;
      is_over = sym (ap (λ n. nat_lt 0 n && is_end (slice_get f.sent (n - 1))) none.1);
      waits_for = sym (unseen_waits p f sound none.0);
      reads = λ e. record {
        unread = (unseen_body p f sound none.0, ap (λ n. drop n (flow_bytes f)) none.0 ∙ sym (ap (λ n. flat_map part_bytes (drop n f.sent)) none.1));
        waits = unseen_waits p f sound none.0;
        pieces = tt;
        place = sym (ap (λ n. place_after (take n f.sent)) none.1);
        content = refl;
      };
      given_up = λ e. absurd (none_there (ap is_some alive) e);
    }
  where
    none_there : is_some f.fault ≡ false → is_some f.fault ≡ true → ⊥
    none_there a b = grind (arith, common_steps, a, b)

-- a piece more
pub concat_piece : (pieces : List (List ℕ)) (bytes : List ℕ) → concat (with_piece pieces bytes) ≡ concat pieces ++ bytes
concat_piece pieces [] = sym (append-nil (concat pieces))
concat_piece pieces (byte ∷ bytes) = concat-append pieces ((byte ∷ bytes) ∷ []) ∙ ap (λ l. concat pieces ++ l) (append-nil (byte ∷ bytes))

all_and : (pieces : List (List ℕ)) (piece : List ℕ) → AllByRecursion HasBytes pieces → HasBytes piece → AllByRecursion HasBytes (pieces ++ piece ∷ [])
all_and [] piece h k = (k, tt)
all_and (p ∷ pieces) piece h k = (h.0, all_and pieces piece h.1 k)

pub pieces_and : (pieces : List (List ℕ)) (bytes : List ℕ) → AllByRecursion HasBytes pieces → AllByRecursion HasBytes (with_piece pieces bytes)
pieces_and pieces [] h = h
pieces_and pieces (byte ∷ bytes) h = all_and pieces (byte ∷ bytes) h (omega arith)

-- bytes that come are unread in place of undelivered
pub moved : (frame unread bytes whole : List ℕ) (delivered count : ℕ) → bytes ≡ take count (drop delivered whole)
    → frame ++ (unread ++ bytes) ++ drop (delivered + count) whole ≡ frame ++ unread ++ drop delivered whole
moved frame unread bytes whole delivered count is =
    let rest : bytes ++ drop (delivered + count) whole ≡ drop delivered whole =
    ap (λ l. bytes ++ l) (sym (drop-drop count delivered whole)) ∙ ap (λ l. l ++ drop count (drop delivered whole)) is ∙ take-append-drop count (drop delivered whole) in
    append_assoc frame (unread ++ bytes) (drop (delivered + count) whole)
    ∙ ap (λ l. frame ++ l) (append_assoc unread bytes (drop (delivered + count) whole) ∙ ap (λ l. unread ++ l) rest)
    ∙ sym (append_assoc frame unread (drop delivered whole))

before_come : (f : Flow) (count : ℕ) (n : ℕ) (part : Option Part) (left : List ℕ) → StandsBefore f n part left → StandsBefore (come f count) n part left
before_come f count zero part left h = h
before_come f count (suc n) None left h = h
before_come f count (suc n) (Some (Interim s)) left h = h
before_come f count (suc n) (Some (Head s)) left h = h
before_come f count (suc n) (Some (Body bytes own)) left h = h
before_come f count (suc n) (Some (Trailer s)) left h = h
before_come f count (suc n) (Some End) left h = h

waits_come : (f : Flow) (i : Incoming) (unread : List (List ℕ)) (count : ℕ) (section : Option (List ℕ)) (part : Option Section) → WaitsIn f i section part
    → WaitsIn (come f count) (record i { unread = unread }) section part
waits_come f i unread count None part h = h
waits_come f i unread count (Some bytes) None h = h
waits_come f i unread count (Some bytes) (Some s) h = h

-- Bytes come: the next ones that wait.
pub bytes_come : (f : Flow) (i : Incoming) (bytes : List ℕ) (count : ℕ) → ReceivesFlow f i → bytes ≡ take count (drop f.delivered (flow_bytes f)) → ReceivesFlow (come f count) (kept i bytes)
bytes_come f i bytes count h is =
    record {
      fault = h.fault;
      ended = h.ended;
      was_reset = h.was_reset;
      is_over = h.is_over;
      waits_for = h.waits_for;
      reads = λ alive. reading (h.reads alive) (ap is_some (h.fault ∙ alive));
      given_up = λ lost. record {
        unread = ap (λ b. if b then [] else with_piece i.unread bytes) (ap is_some h.fault ∙ lost);
        section = (h.given_up lost).section;
        waits = (h.given_up lost).waits;
      };
    }
  where
    unread_is : is_some i.fault ≡ false → (if is_some i.fault then [] else with_piece i.unread bytes) ≡ with_piece i.unread bytes
    unread_is none = ap (λ b. if b then [] else with_piece i.unread bytes) none

    reading : ReadsFlow f i → is_some i.fault ≡ false → ReadsFlow (come f count) (kept i bytes)
    reading r none =
        record {
          unread =
              subst (StandsBefore (come f count) i.body_left (next_part f))
              (sym (ap (λ u. section_frame i.section ++ concat u ++ drop (f.delivered + count) (flow_bytes f)) (unread_is none)
              ∙ ap (λ l. section_frame i.section ++ l ++ drop (f.delivered + count) (flow_bytes f)) (concat_piece i.unread bytes)
              ∙ moved (section_frame i.section) (concat i.unread) bytes (flow_bytes f) f.delivered count is))
              (before_come f count i.body_left (next_part f) (section_frame i.section ++ concat i.unread ++ drop f.delivered (flow_bytes f)) r.unread);
          waits = waits_come f i (if is_some i.fault then [] else with_piece i.unread bytes) count i.section (section_of_part (next_part f)) r.waits;
          pieces = subst (AllByRecursion HasBytes) (sym (unread_is none)) (pieces_and i.unread bytes r.pieces);
          place = r.place;
          content = r.content;
        }

pub end_comes : (f : Flow) (i : Incoming) → ReceivesFlow f i → ReceivesFlow (ended_flow f) (with_end i)
end_comes f i h =
    record {
      fault = h.fault;
      ended = refl;
      was_reset = h.was_reset;
      is_over = h.is_over;
      waits_for = h.waits_for;
      reads = λ alive. record {
        unread = before_end i.body_left (next_part f) _ (h.reads alive).unread;
        waits = waits_end i.section (section_of_part (next_part f)) (h.reads alive).waits;
        pieces = (h.reads alive).pieces;
        place = (h.reads alive).place;
        content = (h.reads alive).content;
      };
      given_up = λ lost. record { unread = (h.given_up lost).unread; section = (h.given_up lost).section; waits = (h.given_up lost).waits };
    }
  where
    before_end : (n : ℕ) (part : Option Part) (left : List ℕ) → StandsBefore f n part left → StandsBefore (ended_flow f) n part left
    before_end zero part left h = h
    before_end (suc n) None left h = h
    before_end (suc n) (Some (Interim s)) left h = h
    before_end (suc n) (Some (Head s)) left h = h
    before_end (suc n) (Some (Body bytes own)) left h = h
    before_end (suc n) (Some (Trailer s)) left h = h
    before_end (suc n) (Some End) left h = h

    waits_end : (section : Option (List ℕ)) (part : Option Section) → WaitsIn f i section part → WaitsIn (ended_flow f) (with_end i) section part
    waits_end None part h = h
    waits_end (Some bytes) None h = h
    waits_end (Some bytes) (Some s) h = h

-- A stream is given up that was not.
pub is_given_up : (f : Flow) (i : Incoming) (fault : StreamFault) → i.ended ≡ f.ended → i.was_reset ≡ f.reset_came → i.is_over ≡ is_over f
    → ReceivesFlow (record f { fault = Some fault; waits_for = 0 }) (given_up i fault)
is_given_up f i fault ended reset over =
    record {
      fault = refl;
      ended = ended;
      was_reset = reset;
      is_over = over;
      waits_for = refl;
      reads = λ alive. absurd (lost alive);
      given_up = λ e. record { unread = refl; section = refl; waits = refl };
    }
  where
    lost : ◌≡◌ {A = Option StreamFault} (Some fault) None → ⊥
    lost e = cc

pub reset_comes : (f : Flow) (i : Incoming) (fault : StreamFault) → ReceivesFlow f i → ReceivesFlow (flow_given_up f fault) (given_up_once (record i { was_reset = true }) fault)
reset_comes f i fault h = subst (after f.fault) (sym h.fault) (by_fault f.fault refl)
  where
    first_fault : (first : StreamFault) → f.fault ≡ Some first → i.fault ≡ Some first → ReceivesFlow (reset_flow f) (record i { was_reset = true })
    first_fault first e k =
        record {
          fault = h.fault;
          ended = h.ended;
          was_reset = refl;
          is_over = h.is_over;
          waits_for = h.waits_for;
          reads = λ alive. absurd (lost (sym e ∙ alive));
          given_up = λ lost. record { unread = (h.given_up lost).unread; section = (h.given_up lost).section; waits = (h.given_up lost).waits };
        }
      where
        lost : ◌≡◌ {A = Option StreamFault} (Some first) None → ⊥
        lost x = cc

    after : Option StreamFault → Option StreamFault → Type 0
    after o q =
        ReceivesFlow (if is_some o then reset_flow f else record (reset_flow f) { fault = Some fault; waits_for = 0 })
        (given_up_by (record i { was_reset = true }) fault q)

    by_fault : (o : Option StreamFault) → f.fault ≡ o → after o o
    by_fault (Some first) e = first_fault first e (h.fault ∙ e)
    by_fault None e = is_given_up (reset_flow f) (record i { was_reset = true }) fault h.ended refl h.is_over
