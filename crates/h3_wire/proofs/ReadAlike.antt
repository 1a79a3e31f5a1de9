-- However bytes are cut, they read alike.
use Rattle.std.proofs.Common.{◌≡◌, Bool, true, false, ℕ, zero, suc, ◌<◌, ◌≤◌, List, [], ◌∷◌, ◌++◌, length, arith, sym, ◌∙◌, ap, subst, refl, inl, inr}
use Rattle.std.proofs.lemmas.List.{nil_from_length}
use Rattle.std.proofs.lemmas.Bool.{lt-ltb}
use Rattle.h3_frames.specs.declared.proto.frame.PayloadLen.{PayloadLen}
use Rattle.h3_frames.specs.declared.proto.frame.Frame.{Frame}
use Rattle.h3_frames.specs.declared.proto.frame.Frame.TheVariants as frame
use Rattle.h3_frames.specs.declared.proto.frame.FrameError.{FrameError}
use Rattle.h3_wire.specs.declared.frame.payload_left.PayloadLeft.{PayloadLeft}
use Rattle.h3_wire.specs.declared.frame.payload_left.PayloadLeft.TheVariants as payload
use Rattle.h3_frames.specs.Frames.{Front, Whole, Unknown, Refused, Unfinished, frame_at, plain_frames}
use Rattle.h3_frames.specs.FrameLaws.{frame_by-more, frame_by-shorter, frame_by-nil}
use Rattle.h3_frames.specs.Fronts.{IsFinished, IsShorter, with_more, IsKnown}
use Rattle.h3_frames.specs.Known.{known}
use Rattle.h3_frames.specs.KnownLaws.{cases_front, known-unknown, known-other, unknown_shorter}
use Rattle.h3_wire.specs.Streams.{payload_behind, is_open, TakesPayload}
use Rattle.h3_wire.specs.Reads.{Reads, Framed, Byte, Refuses, Leaves, read_front, reads_within, reads, bytes_then, then_more}

-- a front leads on alike where what follows it is read alike
front_same : (x : Front) (size : ℕ) (bytes : List ℕ) (go to : PayloadLeft → List ℕ → Reads) → IsShorter size x → ((p : PayloadLeft) (rest : List ℕ) → length rest < size → go p rest ≡ to p rest) → read_front x bytes go ≡ read_front x bytes to
front_same (Whole f rest) size bytes go to h same = ap (Framed f) (same (payload_behind f) rest h)
front_same (Unknown kind rest) size bytes go to h same = same (payload.Bytes 0) rest h
front_same (Refused e) size bytes go to h same = refl
front_same (Unfinished k) size bytes go to h same = refl

none_left : (n : ℕ) (p : PayloadLeft) → reads_within n p [] ≡ Leaves [] p
none_left zero p = refl
none_left (suc n) (payload.Bytes zero) = ap (λ x. read_front x [] (reads_within n)) (frame_by-nil plain_frames)
none_left (suc n) (payload.Bytes (suc k)) = refl
none_left (suc n) payload.ToEnd = refl

-- no count of steps but the least matters
within_same : (n m : ℕ) (p : PayloadLeft) (bytes : List ℕ) → length bytes ≤ n → length bytes ≤ m → reads_within n p bytes ≡ reads_within m p bytes
within_same zero m p bytes h k = let nil = nil_from_length bytes (omega arith) in ap (reads_within 0 p) nil ∙ sym (ap (reads_within m p) nil ∙ none_left m p)
within_same (suc n) zero p bytes h k = let nil = nil_from_length bytes (omega arith) in ap (reads_within (suc n) p) nil ∙ none_left (suc n) p ∙ sym (ap (reads_within 0 p) nil)
within_same (suc n) (suc m) (payload.Bytes zero) bytes h k =
    front_same (frame_at bytes) (length bytes) bytes (reads_within n) (reads_within m) (frame_by-shorter plain_frames bytes) (λ p rest less. within_same n m p rest (omega (arith, less)) (omega (arith, less)))
within_same (suc n) (suc m) (payload.Bytes (suc c)) [] h k = refl
within_same (suc n) (suc m) (payload.Bytes (suc c)) (b ∷ bytes) h k = ap (Byte b) (within_same n m (payload.Bytes c) bytes (omega arith) (omega arith))
within_same (suc n) (suc m) payload.ToEnd [] h k = refl
within_same (suc n) (suc m) payload.ToEnd (b ∷ bytes) h k = ap (Byte b) (within_same n m payload.ToEnd bytes (omega arith) (omega arith))

pub reads-nil : (p : PayloadLeft) → reads p [] ≡ Leaves [] p
unfolding reads
reads-nil p = refl

front_step : (n : ℕ) (bytes : List ℕ) → length bytes ≡ n → reads_within n (payload.Bytes 0) bytes ≡ read_front (frame_at bytes) bytes (λ p rest. reads_within (length rest) p rest)
front_step zero bytes h =
    let nil = nil_from_length bytes h in
    ap (reads_within 0 (payload.Bytes 0)) nil ∙ sym (ap (λ l. read_front (frame_at l) l (λ p rest. reads_within (length rest) p rest)) nil ∙ ap (λ x. read_front x [] (λ p rest. reads_within (length rest) p rest)) (frame_by-nil plain_frames))
front_step (suc n) bytes h =
    front_same (frame_at bytes) (length bytes) bytes (reads_within n) (λ p rest. reads_within (length rest) p rest) (frame_by-shorter plain_frames bytes) (λ p rest less. within_same n (length rest) p rest (omega (arith, less)) (omega arith))

-- the next frame, outside a payload
pub reads-front : (bytes : List ℕ) → reads (payload.Bytes 0) bytes ≡ read_front (frame_at bytes) bytes reads
unfolding reads
reads-front bytes = front_step (length bytes) bytes refl

pub reads-byte : (k byte : ℕ) (bytes : List ℕ) → reads (payload.Bytes (suc k)) (byte ∷ bytes) ≡ Byte byte (reads (payload.Bytes k) bytes)
unfolding reads
reads-byte k byte bytes = refl

pub reads-to_end : (byte : ℕ) (bytes : List ℕ) → reads payload.ToEnd (byte ∷ bytes) ≡ Byte byte (reads payload.ToEnd bytes)
unfolding reads
reads-to_end byte bytes = refl

pub reads-whole : (f : Frame PayloadLen) (bytes rest : List ℕ) → frame_at bytes ≡ Whole f rest → reads (payload.Bytes 0) bytes ≡ Framed f (reads (payload_behind f) rest)
reads-whole f bytes rest e = reads-front bytes ∙ ap (λ x. read_front x bytes reads) e

pub reads-unknown : (kind : ℕ) (bytes rest : List ℕ) → frame_at bytes ≡ Unknown kind rest → reads (payload.Bytes 0) bytes ≡ reads (payload.Bytes 0) rest
reads-unknown kind bytes rest e = reads-front bytes ∙ ap (λ x. read_front x bytes reads) e

pub reads-refused : (e' : FrameError) (bytes : List ℕ) → frame_at bytes ≡ Refused e' → reads (payload.Bytes 0) bytes ≡ Refuses e'
reads-refused e' bytes e = reads-front bytes ∙ ap (λ x. read_front x bytes reads) e

pub reads-unfinished : (k : ℕ) (bytes : List ℕ) → frame_at bytes ≡ Unfinished k → reads (payload.Bytes 0) bytes ≡ Leaves bytes (payload.Bytes 0)
reads-unfinished k bytes e = reads-front bytes ∙ ap (λ x. read_front x bytes reads) e

-- unknown frames are no part
reads_known_within : (n : ℕ) (bytes : List ℕ) → length bytes ≤ n → reads (payload.Bytes 0) (known bytes) ≡ reads (payload.Bytes 0) bytes
reads_known_within zero bytes h =
    let nil = nil_from_length bytes (omega arith) in
    ap (reads (payload.Bytes 0)) (known-other plain_frames bytes (subst IsKnown (sym (ap frame_at nil ∙ frame_by-nil plain_frames)) tt))
reads_known_within (suc n) bytes h = elim (cases_front (frame_at bytes)) [
  | inl u ↦ ap (reads (payload.Bytes 0)) (known-unknown plain_frames u.0 bytes u.1 u.2) ∙ reads_known_within n u.1 (omega (arith, unknown_shorter plain_frames u.0 bytes u.1 u.2)) ∙ sym (reads-unknown u.0 bytes u.1 u.2)
  | inr here ↦ ap (reads (payload.Bytes 0)) (known-other plain_frames bytes here)
]

pub reads-known : (bytes : List ℕ) → reads (payload.Bytes 0) (known bytes) ≡ reads (payload.Bytes 0) bytes
reads-known bytes = reads_known_within (length bytes) bytes (omega arith)

-- a piece of a payload, cut anywhere
pub reads-bytes : (bytes : List ℕ) (p q : PayloadLeft) (rest : List ℕ) → TakesPayload (length bytes) p q → reads p (bytes ++ rest) ≡ bytes_then bytes (reads q rest)
reads-bytes [] (payload.Bytes n) q rest h = ap (λ x. reads x rest) (sym (h.1 ∙ ap payload.Bytes (omega arith)))
reads-bytes [] payload.ToEnd q rest h = ap (λ x. reads x rest) (sym h)
reads-bytes (b ∷ bytes) (payload.Bytes zero) q rest h = absurd (omega (arith, h.0))
reads-bytes (b ∷ bytes) (payload.Bytes (suc n)) q rest h =
    reads-byte n b (bytes ++ rest) ∙ ap (Byte b) (reads-bytes bytes (payload.Bytes n) q rest (omega (arith, h.0), h.1 ∙ ap payload.Bytes (omega arith)))
reads-bytes (b ∷ bytes) payload.ToEnd q rest h = reads-to_end b (bytes ++ rest) ∙ ap (Byte b) (reads-bytes bytes payload.ToEnd q rest h)

front_more : (x : Front) (bytes more : List ℕ) → frame_at bytes ≡ x → ((p : PayloadLeft) (rest : List ℕ) → length rest < length bytes → reads p (rest ++ more) ≡ then_more (reads p rest) more) → reads (payload.Bytes 0) (bytes ++ more) ≡ then_more (reads (payload.Bytes 0) bytes) more
front_more (Whole f rest) bytes more e same =
    let there = frame_by-more plain_frames bytes more (subst IsFinished (sym e) tt) ∙ ap (λ x. with_more x more) e in
    let less : length rest < length bytes = subst (IsShorter (length bytes)) e (frame_by-shorter plain_frames bytes) in
    reads-whole f (bytes ++ more) (rest ++ more) there ∙ ap (Framed f) (same (payload_behind f) rest less) ∙ sym (ap (λ r. then_more r more) (reads-whole f bytes rest e))
front_more (Unknown kind rest) bytes more e same =
    let there = frame_by-more plain_frames bytes more (subst IsFinished (sym e) tt) ∙ ap (λ x. with_more x more) e in
    let less : length rest < length bytes = subst (IsShorter (length bytes)) e (frame_by-shorter plain_frames bytes) in
    reads-unknown kind (bytes ++ more) (rest ++ more) there ∙ same (payload.Bytes 0) rest less ∙ sym (ap (λ r. then_more r more) (reads-unknown kind bytes rest e))
front_more (Refused e') bytes more e same =
    let there = frame_by-more plain_frames bytes more (subst IsFinished (sym e) tt) ∙ ap (λ x. with_more x more) e in
    reads-refused e' (bytes ++ more) there ∙ sym (ap (λ r. then_more r more) (reads-refused e' bytes e))
front_more (Unfinished k) bytes more e same = sym (ap (λ r. then_more r more) (reads-unfinished k bytes e))

reads_more_within : (n : ℕ) (p : PayloadLeft) (bytes more : List ℕ) → length bytes ≤ n → reads p (bytes ++ more) ≡ then_more (reads p bytes) more
reads_more_within n p [] more h = sym (ap (λ r. then_more r more) (reads-nil p))
reads_more_within zero p (b ∷ bytes) more h = absurd (omega arith)
reads_more_within (suc n) (payload.Bytes (suc k)) (b ∷ bytes) more h =
    reads-byte k b (bytes ++ more) ∙ ap (Byte b) (reads_more_within n (payload.Bytes k) bytes more (omega arith)) ∙ sym (ap (λ r. then_more r more) (reads-byte k b bytes))
reads_more_within (suc n) payload.ToEnd (b ∷ bytes) more h =
    reads-to_end b (bytes ++ more) ∙ ap (Byte b) (reads_more_within n payload.ToEnd bytes more (omega arith)) ∙ sym (ap (λ r. then_more r more) (reads-to_end b bytes))
reads_more_within (suc n) (payload.Bytes zero) (b ∷ bytes) more h =
    front_more (frame_at (b ∷ bytes)) (b ∷ bytes) more refl (λ p rest less. reads_more_within n p rest more (omega (arith, less)))

-- **However the bytes are cut, they read alike.**
pub reads-more : (p : PayloadLeft) (bytes more : List ℕ) → reads p (bytes ++ more) ≡ then_more (reads p bytes) more
reads-more p bytes more = reads_more_within (length bytes) p bytes more (omega arith)

-- no payload is under way
abbrev holds : Bool → Type 0
holds true = Unit {0}
holds false = ⊥

pub apart : true ≡ false → ⊥
apart e = subst holds e tt

pub closed_is : (p : PayloadLeft) → is_open p ≡ false → p ≡ payload.Bytes 0
closed_is (payload.Bytes zero) h = refl
closed_is (payload.Bytes (suc n)) h = let some = lt-ltb 0 (suc n) (omega arith) in absurd (apart (sym some ∙ h))
closed_is payload.ToEnd h = absurd (apart h)
