-- Less than a frame that was written is the unfinished front of a frame.
use Rattle.std.proofs.Common.{◌≡◌, ℕ, ◌+◌, ◌-◌, ◌<◌, ◌≤◌, ◌^◌, ◌==◌, false, List, [], ◌++◌, length, take, drop, arith, sym, ◌∙◌, ap, refl, inl, inr, length-append, take-append-drop, Some, None}
use Rattle.std.proofs.lemmas.List.{take-append-le, length-take, length-drop}
use Rattle.std.proofs.lemmas.Bool.{cases_lt, lt-ltb}
use Rattle.std.proofs.Math.Seq.{take-append-add}
use Rattle.h3_coding.specs.Encodings.{encoding}
use Rattle.h3_coding.specs.Varint.{varint_at}
use Rattle.h3_coding.specs.VarintLaws.{cases_number, reads_more, reads_shortest}
use Rattle.h3_frames.specs.Encoded.{head_encoding, frame_encoding}
use Rattle.h3_frames.specs.EncodedLaws.{alone_number, written_head}
use Rattle.h3_frames.specs.FrameLaws.{at_no_kind, at_no_number}
use Rattle.h3_frames.specs.Frames.{Unfinished, frame_by, is_session}
use Rattle.h3_frames.specs.Fronts.{IsUnfinishedFront, behind_number}
use Rattle.h3_frames.specs.declared.frame.kinds.FrameKinds.{FrameKinds}

-- less than a number is none
pub front_of_number : (v n : ℕ) → v < 2 ^ 62 → n < length (encoding v) → varint_at (take n (encoding v)) ≡ None
front_of_number v n h short = elim (cases_number (take n (encoding v))) [
  | inl none ↦ none
  | inr k ↦
      let all : Some (v, []) ≡ Some (k.0, k.1 ++ drop n (encoding v)) =
      sym (alone_number v h) ∙ ap varint_at (sym (take-append-drop n (encoding v))) ∙ reads_more k.0 (take n (encoding v)) k.1 (drop n (encoding v)) k.2 in
      let none : [] ≡ k.1 ++ drop n (encoding v) = ap behind_number all in
      let size : 0 ≡ length (k.1 ++ drop n (encoding v)) = ap length none in
      absurd (omega (arith, size, length-append k.1 (drop n (encoding v)), length-drop n (encoding v)))
]

-- a front that goes past its first part
past_first : (n : ℕ) (xs ys : List ℕ) → length xs ≤ n → take n (xs ++ ys) ≡ xs ++ take (n - length xs) ys
past_first n xs ys h =
    let sum : n ≡ length xs + (n - length xs) = omega arith in
    ap (λ m. take m (xs ++ ys)) sum ∙ take-append-add xs ys (n - length xs)

-- less than a type and a number
pub front_of_head : (kinds : FrameKinds) (kind number n : ℕ) → kind < 2 ^ 62 → number < 2 ^ 62 → n < length (head_encoding kind number) → frame_by kinds (take n (head_encoding kind number)) ≡ Unfinished (n + 1)
front_of_head kinds kind number n h k short =
    let size : length (take n (head_encoding kind number)) + 1 ≡ n + 1 = omega (arith, length-take n (head_encoding kind number)) in
    elim (cases_lt n (length (encoding kind))) [
      | inl inside ↦
          let front = take-append-le n (encoding kind) (encoding number) (omega (arith, inside)) in
          at_no_kind kinds (take n (head_encoding kind number)) (ap varint_at front ∙ front_of_number kind n h inside) ∙ ap Unfinished size
      | inr past ↦
          let j = n - length (encoding kind) in
          let few : j < length (encoding number) = omega (arith, short, past, length-append (encoding kind) (encoding number)) in
          let front = past_first n (encoding kind) (encoding number) past in
          at_no_number kinds kind (take n (head_encoding kind number)) (take j (encoding number)) (ap varint_at front ∙ reads_shortest kind (take j (encoding number)) h) (front_of_number number j k few)
          ∙ ap Unfinished size
    ]

-- less than a frame that is handed out whole
pub front_of_frame : (kinds : FrameKinds) (kind : ℕ) (payload : List ℕ) (n : ℕ) → kind < 2 ^ 62 → length payload < 2 ^ 62 → is_session kinds kind ≡ false → (kind == 0) ≡ false → n < length (frame_encoding kind payload)
    → IsUnfinishedFront kinds (take n (frame_encoding kind payload))
front_of_frame kinds kind payload n h k session plain short = elim (cases_lt n (length (head_encoding kind (length payload)))) [
  | inl inside ↦
      let front = take-append-le n (head_encoding kind (length payload)) payload (omega (arith, inside)) in
      (n + 1, ap (frame_by kinds) front ∙ front_of_head kinds kind (length payload) n h k inside)
  | inr past ↦
      let j = n - length (head_encoding kind (length payload)) in
      let few : j < length payload = omega (arith, short, past, length-append (head_encoding kind (length payload)) payload) in
      let less : length (take j payload) < length payload = omega (arith, few, length-take j payload) in
      let front = past_first n (head_encoding kind (length payload)) payload past in
      let here = ap (frame_by kinds) front ∙ written_head kinds kind (length payload) (take j payload) h k in (
        length (head_encoding kind (length payload) ++ take j payload) - length (take j payload) + length payload,
        here ∙ rw (session, plain, lt-ltb (length (take j payload)) (length payload) less) refl,
      )
]
