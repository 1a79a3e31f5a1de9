-- What is read of a frame rests on its own bytes alone, whatever follows.
use Rattle.std.proofs.Common.{◌≡◌, ℕ, zero, suc, ◌+◌, ◌-◌, ◌≤◌, ◌==◌, Bool, true, false, List, [], ◌∷◌, ◌++◌, length, take, drop, nat_lt, arith, sym, ◌∙◌, ap, ap₂, subst, refl, inl, inr, ◌⊎◌, append_assoc, length-append, length-take-le, Some}
use Rattle.std.proofs.lemmas.List.{take_at, drop_at, take-append-drop, nil_from_length}
use Rattle.std.proofs.lemmas.Bool.{cases_lt, lt-ltb, le-ltb}
use Rattle.h3_coding.specs.Varint.{varint_at}
use Rattle.h3_coding.specs.VarintLaws.{cases_number, begins, of_front}
use Rattle.h3_frames.specs.Frames.{Front, Whole, Unknown, Refused, Unfinished, frame_known, with_head, frame_by, is_session}
use Rattle.h3_frames.specs.FrameLaws.{at_no_kind, at_no_number, at_head, frame_known-finished, frame_known-more, frame_by-nil}
use Rattle.h3_frames.specs.Fronts.{IsFinished, IsBefore, with_more, IsKnown, tested}
use Rattle.h3_frames.specs.Known.{known_by}
use Rattle.h3_frames.specs.KnownLaws.{cases_front, known-unknown, known-other, unknown_shorter}
use Rattle.h3_frames.specs.declared.frame.kinds.FrameKinds.{FrameKinds}

-- a whole frame, or a whole unknown one, is followed by these bytes
abbrev pub Precedes : Front → List ℕ → Type 0
Precedes (Whole f rest) r = rest ≡ r
Precedes (Unknown kind rest) r = rest ≡ r
Precedes _ r = ⊥

-- the same with other bytes behind it
abbrev pub followed_by : Front → List ℕ → Front
followed_by (Whole f rest) r = Whole f r
followed_by (Unknown kind rest) r = Unknown kind r
followed_by x r = x

-- The bytes are a front, read as x whatever follows, and the rest.
pub record IsFrontOf (kinds : FrameKinds) (bytes rest : List ℕ) (x : Front) : Type 0 where
  pub front : List ℕ
  pub split : bytes ≡ front ++ rest
  pub alike : (more : List ℕ) → frame_by kinds (front ++ more) ≡ followed_by x more

-- the bytes of a number
pub record IsNumber (v : ℕ) (bytes rest : List ℕ) : Type 0 where
  pub front : List ℕ
  pub split : bytes ≡ front ++ rest
  pub alike : (more : List ℕ) → varint_at (front ++ more) ≡ Some (v, more)

pub number_front : (v : ℕ) (bytes rest : List ℕ) → varint_at bytes ≡ Some (v, rest) → IsNumber v bytes rest
number_front v bytes rest e =
    let b = begins v bytes rest e in
    record { front = b.first ∷ b.more; split = b.parts; alike = λ more. of_front v b.first b.more more b.asked b.value }

again : (x : Front) (r more : List ℕ) → IsBefore [] x → IsFinished x → with_more x more ≡ followed_by (with_more x r) more
again (Whole f rest) r more e h = ap (λ l. Whole f (l ++ more)) e
again (Unknown kind rest) r more e h = ap (λ l. Unknown kind (l ++ more)) e
again (Refused e) r more before h = refl
again (Unfinished least) r more before h = absurd h

-- what a payload is does not rest on what follows
payload_alike : (kinds : FrameKinds) (kind : ℕ) (payload r more : List ℕ) → frame_known kinds kind payload more ≡ followed_by (frame_known kinds kind payload r) more
payload_alike kinds kind payload r more =
    let done = frame_known-finished kinds kind payload [] in
    frame_known-more kinds kind payload [] more ∙ again (frame_known kinds kind payload []) r more done.1 done.0 ∙ ap (λ x. followed_by x more) (sym (frame_known-more kinds kind payload [] r))

-- what stands behind a head: the rest of the frame, and the bytes that follow it
record IsTail (kinds : FrameKinds) (a b : Bool) (size kind number : ℕ) (behind rest : List ℕ) : Type 0 where
  tail : List ℕ
  split : behind ≡ tail ++ rest
  alike : (other : ℕ) (more : List ℕ) → tested kinds a b other kind number (tail ++ more) ≡ followed_by (tested kinds a b size kind number behind) more

preceding : (x : Front) (r s : List ℕ) → Precedes x r → IsBefore s x → s ≡ r
preceding (Whole f rest) r s h k = sym k ∙ h
preceding (Unknown kind rest) r s h k = sym k ∙ h
preceding (Refused e) r s h k = absurd h
preceding (Unfinished least) r s h k = absurd h

short_or_whole : (number : ℕ) (behind : List ℕ) → (nat_lt (length behind) number ≡ true) ⊎ (nat_lt (length behind) number ≡ false) × (number ≤ length behind)
short_or_whole number behind = elim (cases_lt (length behind) number) [
  | inl h ↦ inl (lt-ltb (length behind) number h)
  | inr h ↦ inr (le-ltb (length behind) number h, h)
]

payload_tail : (kinds : FrameKinds) (size kind number : ℕ) (behind rest : List ℕ) → (nat_lt (length behind) number ≡ true) ⊎ (nat_lt (length behind) number ≡ false) × (number ≤ length behind)
    → Precedes (tested kinds false false size kind number behind) rest → IsTail kinds false false size kind number behind rest
payload_tail kinds size kind number behind rest (inl t) h = absurd (rw t at h)
payload_tail kinds size kind number behind rest (inr t) h =
    let payload = take number behind in
    let count : length payload ≡ number = length-take-le number behind t.1 in
    let here : tested kinds false false size kind number behind ≡ frame_known kinds kind payload (drop number behind) = rw t.0 refl in
    let follows : drop number behind ≡ rest = preceding (frame_known kinds kind payload (drop number behind)) rest (drop number behind) (subst (λ x. Precedes x rest) here h) (frame_known-finished kinds kind payload (drop number behind)).1 in
    record {
      tail = payload;
      split = sym (take-append-drop number behind) ∙ ap (λ l. payload ++ l) follows;
      alike = λ other more.
          let enough : nat_lt (length (payload ++ more)) number ≡ false = le-ltb (length (payload ++ more)) number (omega (arith, count, length-append payload more)) in
          let whole : tested kinds false false other kind number (payload ++ more) ≡ frame_known kinds kind (take number (payload ++ more)) (drop number (payload ++ more)) = rw enough refl in
          whole ∙ ap₂ (λ p r. frame_known kinds kind p r) (take_at payload more number count) (drop_at payload more number count)
          ∙ payload_alike kinds kind payload (drop number behind) more ∙ ap (λ x. followed_by x more) (sym here);
    }

head_tail : (kinds : FrameKinds) (a b : Bool) (size kind number : ℕ) (behind rest : List ℕ) → Precedes (tested kinds a b size kind number behind) rest → IsTail kinds a b size kind number behind rest
head_tail kinds true b size kind number behind rest h = record { tail = []; split = h; alike = λ other more. refl }
head_tail kinds false true size kind number behind rest h = record { tail = []; split = h; alike = λ other more. refl }
head_tail kinds false false size kind number behind rest h = payload_tail kinds size kind number behind rest (short_or_whole number behind) h

whole_front : (kinds : FrameKinds) (kind number : ℕ) (bytes mid behind rest : List ℕ) → IsNumber kind bytes mid → IsNumber number mid behind → IsTail kinds (is_session kinds kind) (kind == 0) (length bytes) kind number behind rest
    → IsFrontOf kinds bytes rest (with_head kinds (length bytes) kind number behind)
whole_front kinds kind number bytes mid behind rest k n t =
    let all : (more : List ℕ) → (k.front ++ (n.front ++ t.tail)) ++ more ≡ k.front ++ (n.front ++ (t.tail ++ more)) =
    λ more. append_assoc k.front (n.front ++ t.tail) more ∙ ap (λ l. k.front ++ l) (append_assoc n.front t.tail more) in
    record {
      front = k.front ++ (n.front ++ t.tail);
      split = k.split ∙ ap (λ l. k.front ++ l) (n.split ∙ ap (λ l. n.front ++ l) t.split) ∙ sym (all rest);
      alike = λ more.
          let bytes = k.front ++ (n.front ++ (t.tail ++ more)) in
          ap (frame_by kinds) (all more) ∙ at_head kinds kind number bytes (n.front ++ (t.tail ++ more)) (t.tail ++ more) (k.alike (n.front ++ (t.tail ++ more))) (n.alike (t.tail ++ more)) ∙ t.alike (length bytes) more;
    }

-- the bytes of a frame, unknown or not
pub frame_front : (kinds : FrameKinds) (bytes rest : List ℕ) → Precedes (frame_by kinds bytes) rest → IsFrontOf kinds bytes rest (frame_by kinds bytes)
frame_front kinds bytes rest h = elim (cases_number bytes) [
  | inl none ↦ absurd (subst (λ x. Precedes x rest) (at_no_kind kinds bytes none) h)
  | inr k ↦ elim (cases_number k.1) [
    | inl none ↦ absurd (subst (λ x. Precedes x rest) (at_no_number kinds k.0 bytes k.1 k.2 none) h)
    | inr n ↦
        let here : frame_by kinds bytes ≡ with_head kinds (length bytes) k.0 n.0 n.1 = at_head kinds k.0 n.0 bytes k.1 n.1 k.2 n.2 in
        let tail = head_tail kinds (is_session kinds k.0) (k.0 == 0) (length bytes) k.0 n.0 n.1 rest (subst (λ x. Precedes x rest) here h) in
        subst (IsFrontOf kinds bytes rest) (sym here) (whole_front kinds k.0 n.0 bytes k.1 n.1 rest (number_front k.0 bytes k.1 k.2) (number_front n.0 k.1 n.1 n.2) tail)
  ]
]

-- The unknown frames at the front, and the bytes from the first known frame on.
pub record IsUnknownFront (kinds : FrameKinds) (bytes : List ℕ) : Type 0 where
  pub front : List ℕ
  pub split : bytes ≡ front ++ known_by kinds bytes
  pub alike : (more : List ℕ) → known_by kinds (front ++ more) ≡ known_by kinds more

no_unknown : (kinds : FrameKinds) (bytes : List ℕ) → IsKnown (frame_by kinds bytes) → IsUnknownFront kinds bytes
no_unknown kinds bytes h = record { front = []; split = sym (known-other kinds bytes h); alike = λ more. refl }

unknown_within : (kinds : FrameKinds) (n : ℕ) (bytes : List ℕ) → length bytes ≤ n → IsUnknownFront kinds bytes
unknown_within kinds zero bytes fits = no_unknown kinds bytes (subst IsKnown (sym (ap (frame_by kinds) (nil_from_length bytes (omega (arith, fits))) ∙ frame_by-nil kinds)) tt)
unknown_within kinds (suc n) bytes fits = elim (cases_front (frame_by kinds bytes)) [
  | inl u ↦
      let rest = u.1 in
      let first : IsFrontOf kinds bytes rest (frame_by kinds bytes) = frame_front kinds bytes rest (subst (λ x. Precedes x rest) (sym u.2) refl) in
      let others = unknown_within kinds n rest (omega (arith, fits, unknown_shorter kinds u.0 bytes rest u.2)) in
      let same : known_by kinds bytes ≡ known_by kinds rest = known-unknown kinds u.0 bytes rest u.2 in
      record {
        front = first.front ++ others.front;
        split = first.split ∙ ap (λ l. first.front ++ l) (others.split ∙ ap (λ l. others.front ++ l) (sym same)) ∙ sym (append_assoc first.front others.front (known_by kinds bytes));
        alike = λ more.
            ap (known_by kinds) (append_assoc first.front others.front more)
            ∙ known-unknown kinds u.0 (first.front ++ (others.front ++ more)) (others.front ++ more) (first.alike (others.front ++ more) ∙ ap (λ x. followed_by x (others.front ++ more)) u.2)
            ∙ others.alike more;
      }
  | inr here ↦ no_unknown kinds bytes here
]

pub unknown_front : (kinds : FrameKinds) (bytes : List ℕ) → IsUnknownFront kinds bytes
unknown_front kinds bytes = unknown_within kinds (length bytes) bytes (omega arith)
