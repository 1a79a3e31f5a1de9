-- Whole frames of unknown types give nothing, wherever a frame may begin.
use Rattle.std.proofs.Common.{◌≡◌, ℕ, ◌≤◌, ◌+◌, ◌-◌, Bool, true, false, if◌then◌else◌, List, [], ◌∷◌, ◌++◌, length, take, drop, nat_lt, refl, ap, sym, ◌∙◌, arith, append_assoc, length-append, None}
use Rattle.std.specs.Prelude.{◌||◌, ◌==◌, ◌≢◌}
use Rattle.std.specs.List.{concat, AllByRecursion}
use Rattle.std.proofs.lemmas.Bool.{le-ltb}
use Rattle.std.proofs.lemmas.List.{drop_at, length-drop}
use Rattle.h3_coding.specs.VarintLaws.{reads_encoding}
use Rattle.h3_frames.specs.ExcessiveFrames.{is_excessive_by}
use Rattle.h3_frames.specs.Frames.{Unknown, is_http2, frame_of, with_head, frame_by, is_session, is_update}
use Rattle.h3_frames.specs.FrameLaws.{at_head}
use Rattle.h3_frames.specs.Known.{known_by}
use Rattle.h3_frames.specs.KnownLaws.{known-unknown}
use Rattle.h3_frames.specs.Pieces.{without, ending}
use Rattle.h3_frames.specs.PieceLaws.{concat-without, without-without}
use Rattle.h3_proto.specs.declared.stream.Side.{Side}
use Rattle.h3_qpack.specs.DecoderState.{DecoderState}
use Rattle.h3_connection.specs.declared.place.Place.{Place}
use Rattle.h3_connection.specs.declared.place.Place.TheVariants.{BeforeHead, InBody, AfterTrailer, InSession}
use Rattle.h3_connection.specs.declared.setup.Announced.{Announced}
use Rattle.h3_connection.specs.Incoming.{Incoming, is_body}
use Rattle.h3_connection.specs.Skipping.{skipped}
use Rattle.h3_connection.specs.SkippingLaws.{skipped-length}
use Rattle.h3_connection.proofs.PeerReadings.{skipped_known}
use Rattle.h3_connection.specs.Pulling.{left_with, at_payload, next_frame, between_frames, in_message, next_item, pull_stream, excess}
use Rattle.h3_connection.specs.UnknownFrames.{has_meaning, IsUnknownFrame, BeginsUnknown, MayBeginFrame}
use Rattle.h3_frames.specs.declared.frame.kinds.FrameKinds.{FrameKinds}
use Rattle.h3_connection.specs.StrictConnection.{kinds_of}

neither : (a b : Bool) → (a || b) ≡ false → (a ≡ false) × (b ≡ false)
neither false false e = (refl, refl)
neither false true e = absurd (cc)
neither true b e = absurd (cc)

-- the tests of `with_head` and `frame_of`, none of which holds
record IsNone (kinds : FrameKinds) (kind : ℕ) : Type 0 where
  session : is_session kinds kind ≡ false
  update : is_update kinds kind ≡ false
  data_frame : (kind == 0) ≡ false
  headers : (kind == 1) ≡ false
  cancel : (kind == 3) ≡ false
  settings : (kind == 4) ≡ false
  promise : (kind == 5) ≡ false
  goaway : (kind == 7) ≡ false
  max_push : (kind == 13) ≡ false

none_of : (kinds : FrameKinds) (kind : ℕ) → has_meaning kinds kind ≡ false → IsNone kinds kind
none_of kinds kind h =
    let a = neither (is_session kinds kind) _ h in
    let u = neither (is_update kinds kind) _ a.1 in
    let b = neither (kind == 0) _ u.1 in
    let c = neither (kind == 1) _ b.1 in
    let d = neither (kind == 3) _ c.1 in
    let e = neither (kind == 4) _ d.1 in
    let f = neither (kind == 5) _ e.1 in
    let g = neither (kind == 7) _ f.1 in
    let i = neither (kind == 13) _ g.1 in
    record { session = a.0; update = u.0; data_frame = b.0; headers = c.0; cancel = d.0; settings = e.0; promise = f.0; goaway = g.0; max_push = i.0 }

unknown_payload : (kinds : FrameKinds) (kind : ℕ) (payload rest : List ℕ) → IsNone kinds kind → is_http2 kind ≡ false → frame_of kind payload rest ≡ Unknown kind rest
unfolding frame_of
unknown_payload kinds kind payload rest h allowed = rw (h.headers, h.cancel, h.settings, h.promise, h.goaway, h.max_push, allowed) refl

unknown_head : (kinds : FrameKinds) (size kind : ℕ) (payload rest : List ℕ) → IsNone kinds kind → is_http2 kind ≡ false → with_head kinds size kind (length payload) (payload ++ rest) ≡ Unknown kind rest
unknown_head kinds size kind payload rest h allowed =
    let enough : nat_lt (length (payload ++ rest)) (length payload) ≡ false = le-ltb (length (payload ++ rest)) (length payload) (omega (arith, length-append payload rest)) in
    rw (h.session, h.data_frame, enough, h.update)
    (unknown_payload kinds kind (take (length payload) (payload ++ rest)) (drop (length payload) (payload ++ rest)) h allowed ∙ ap (Unknown kind) (drop_at payload rest (length payload) refl))

-- such a frame is read as an unknown one
pub unknown_is : (kinds : FrameKinds) (bytes rest : List ℕ) → (f : IsUnknownFrame kinds bytes) → frame_by kinds (bytes ++ rest) ≡ Unknown f.kind rest
unknown_is kinds bytes rest f =
    let behind = f.payload ++ rest in
    let all : bytes ++ rest ≡ f.kind_bytes ++ (f.length_bytes ++ behind) =
    ap (λ l. l ++ rest) f.bytes_are ∙ append_assoc f.kind_bytes (f.length_bytes ++ f.payload) rest ∙ ap (λ l. f.kind_bytes ++ l) (append_assoc f.length_bytes f.payload rest) in
    ap (frame_by kinds) all
    ∙ at_head kinds f.kind (length f.payload) (f.kind_bytes ++ (f.length_bytes ++ behind)) (f.length_bytes ++ behind) behind
    (reads_encoding f.kind f.kind_bytes (f.length_bytes ++ behind) f.kind_is) (reads_encoding (length f.payload) f.length_bytes behind f.length_is)
    ∙ unknown_head kinds (length (f.kind_bytes ++ (f.length_bytes ++ behind))) f.kind f.payload rest (none_of kinds f.kind f.unknown) f.allowed

known_behind : (kinds : FrameKinds) (frames : List (List ℕ)) (rest : List ℕ) → AllByRecursion (IsUnknownFrame kinds) frames → known_by kinds (concat frames ++ rest) ≡ known_by kinds rest
known_behind kinds [] rest h = refl
known_behind kinds (f ∷ frames) rest h =
    ap (known_by kinds) (append_assoc f (concat frames) rest) ∙ known-unknown kinds h.0.kind (f ++ (concat frames ++ rest)) (concat frames ++ rest) (unknown_is kinds f (concat frames ++ rest) h.0)
    ∙ known_behind kinds frames rest h.1

-- and left out
pub unknown_left_out : (kinds : FrameKinds) (bytes rest : List ℕ) → BeginsUnknown kinds bytes rest → known_by kinds bytes ≡ known_by kinds rest
unknown_left_out kinds bytes rest b = ap (known_by kinds) b.bytes_are ∙ known_behind kinds b.frames rest b.unknown

pub unknown_before : (kinds : FrameKinds) (bytes rest : List ℕ) → (b : BeginsUnknown kinds bytes rest) → length bytes ≡ length (concat b.frames) + length rest
unknown_before kinds bytes rest b = ap length b.bytes_are ∙ length-append (concat b.frames) rest

-- the last bytes of the last bytes
ending_ending : (n m : ℕ) (all : List (List ℕ)) → n ≤ m → m ≤ length (concat all) → ending n (ending m all) ≡ ending n all
ending_ending n m all h k =
    let size : length (concat (ending m all)) ≡ length (concat all) - (length (concat all) - m) =
    ap length (concat-without (length (concat all) - m) all) ∙ length-drop (length (concat all) - m) (concat all) in
    without-without (length (concat (ending m all)) - n) (length (concat all) - m) all ∙ ap (λ count. without count all) (omega (arith, size, h, k))

pub left_left : (i : Incoming) (bytes rest : List ℕ) → length rest ≤ length bytes → length bytes ≤ length (concat i.unread) → left_with (left_with i bytes) rest ≡ left_with i rest
left_left i bytes rest h k = ap (λ u. let x : Incoming = record i { unread = u } in x) (ending_ending (length rest) (length bytes) i.unread h k)

pub concat_ending : (all : List (List ℕ)) (front rest : List ℕ) → concat all ≡ front ++ rest → concat (ending (length rest) all) ≡ rest
concat_ending all front rest e =
    let size : length (concat all) ≡ length front + length rest = ap length e ∙ length-append front rest in
    let count : length (concat all) - length rest ≡ length front = omega (arith, size) in
    concat-without (length (concat all) - length rest) all ∙ ap (λ n. drop n (concat all)) count ∙ ap (drop (length front)) e ∙ drop_at front rest (length front) refl

module _ (side : Side) (own : Announced) (id : ℕ) (r : DecoderState) where
  between_unknown : (i : Incoming) (rest : List ℕ) → BeginsUnknown (kinds_of own) (concat i.unread) rest → between_frames side own id r i ≡ between_frames side own id r (left_with i rest)
  between_unknown i rest b =
      let there : concat (ending (length rest) i.unread) ≡ rest = concat_ending i.unread (concat b.frames) rest b.bytes_are in
      let bytes = skipped (kinds_of own) (is_body i.place) rest in
      let same : skipped (kinds_of own) (is_body i.place) (concat i.unread) ≡ bytes = skipped_known (kinds_of own) (is_body i.place) (concat i.unread) rest (unknown_left_out (kinds_of own) (concat i.unread) rest b) in
      let few : length rest ≤ length (concat i.unread) = omega (arith, unknown_before (kinds_of own) (concat i.unread) rest b) in
      ap (λ l. if is_excessive_by (kinds_of own) own.choices.unfinished_limit l then excess id i l else next_frame side own id r (left_with i l) l) same
      ∙ ap (λ j. if is_excessive_by (kinds_of own) own.choices.unfinished_limit bytes then excess id i bytes else next_frame side own id r j bytes) (sym (left_left i rest bytes (skipped-length (kinds_of own) (is_body i.place) rest) few))
      ∙ ap (λ l. if is_excessive_by (kinds_of own) own.choices.unfinished_limit l then excess id i l else next_frame side own id r (left_with (left_with i rest) l) l) (sym (ap (skipped (kinds_of own) (is_body i.place)) there))

  pub by_place : (i : Incoming) (place : Place) → place ≢ InSession → next_item side own id r i place ≡ in_message side own id r i i.section
  by_place i BeforeHead h = refl
  by_place i InBody h = refl
  by_place i AfterTrailer h = refl
  by_place i InSession h = absurd (h refl)

  pub pull_next : (i : Incoming) → i.fault ≡ None → i.is_over ≡ false → pull_stream side own id r i ≡ next_item side own id r i i.place
  unfolding pull_stream
  pull_next i e over = rw e (rw over refl)

  -- where a frame may begin, the next item is what stands between frames
  pub pull_between : (i : Incoming) → MayBeginFrame i → pull_stream side own id r i ≡ between_frames side own id r i
  pull_between i m =
      pull_next i m.no_fault m.not_over ∙ by_place i i.place m.message ∙ ap (in_message side own id r i) m.no_section
      ∙ ap (λ n. if nat_lt 0 n then at_payload id i else between_frames side own id r i) m.no_payload

  pub pull_unknown : (i : Incoming) (rest : List ℕ) → MayBeginFrame i → BeginsUnknown (kinds_of own) (concat i.unread) rest → pull_stream side own id r i ≡ pull_stream side own id r (left_with i rest)
  pull_unknown i rest m b =
      pull_between i m ∙ between_unknown i rest b
      ∙ sym (pull_between (left_with i rest) (record { no_fault = m.no_fault; not_over = m.not_over; message = m.message; no_section = m.no_section; no_payload = m.no_payload }))
