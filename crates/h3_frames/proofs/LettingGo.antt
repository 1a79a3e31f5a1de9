-- What the head of an unknown frame says of the frame, also while that is under way.
use Rattle.std.proofs.Common.{◌≡◌, ℕ, ◌+◌, ◌-◌, ◌<◌, ◌≤◌, ◌==◌, Bool, true, false, List, [], ◌∷◌, ◌++◌, length, take, drop, arith, refl, sym, ◌∙◌, ap, inl, inr, length-append, if◌then◌else◌, Option, Some, None}
use Rattle.std.proofs.lemmas.Bool.{or_parts, lt-ltb, le-ltb}
use Rattle.std.proofs.Math.Seq.{drop-append-add}
use Rattle.std.specs.List.{concat}
use Rattle.std.specs.Prelude.{slice_get}
use Rattle.h3_coding.specs.Varint.{varint_at}
use Rattle.h3_coding.specs.VarintLaws.{cases_number, reads_more, shorter, begins, used}
use Rattle.h3_frames.specs.FrameLaws.{at_head}
use Rattle.h3_frames.specs.Frames.{Unknown, Unfinished, frame_by, frame_of, has_head, is_http2, is_session, is_update}
use Rattle.h3_frames.specs.Pieces.{first_bytes}
use Rattle.h3_frames.proofs.Heads.{one_byte}
use Rattle.h3_frames.proofs.Tries.{head_is_whole}
use Rattle.h3_frames.specs.UnknownSize.{is_known_type, size_by, size_with, unknown_size}
use Rattle.h3_frames.specs.declared.frame.kinds.FrameKinds.{FrameKinds}

-- The head of an unknown frame, which has so many bytes.
pub record IsUnknownHead (kinds : FrameKinds) (bytes : List ℕ) (size : ℕ) : Type 0 where
  pub kind : ℕ
  pub number : ℕ
  pub mid : List ℕ
  pub behind : List ℕ
  pub kind_at : varint_at bytes ≡ Some (kind, mid)
  pub number_at : varint_at mid ≡ Some (number, behind)
  pub unknown : is_known_type kinds kind ≡ false
  pub size_is : size ≡ length bytes - length behind + number

abbrev value_of : ℕ → Option ℕ → ℕ
value_of other None = other
value_of other (Some n) = n

no_kind : (kinds : FrameKinds) (bytes : List ℕ) → varint_at bytes ≡ None → unknown_size kinds bytes ≡ None
unfolding unknown_size
no_kind kinds bytes e = ap (size_by kinds (length bytes)) e

at_kind : (kinds : FrameKinds) (kind : ℕ) (bytes mid : List ℕ) (b : Bool) → varint_at bytes ≡ Some (kind, mid) → is_known_type kinds kind ≡ b → unknown_size kinds bytes ≡ (if b then None else size_with (length bytes) (varint_at mid))
unfolding unknown_size
at_kind kinds kind bytes mid b e t = ap (size_by kinds (length bytes)) e ∙ ap (λ x. if x then None else size_with (length bytes) (varint_at mid)) t

pub known_kind : (kinds : FrameKinds) (kind : ℕ) (bytes mid : List ℕ) → varint_at bytes ≡ Some (kind, mid) → is_known_type kinds kind ≡ true → unknown_size kinds bytes ≡ None
known_kind kinds kind bytes mid e t = at_kind kinds kind bytes mid true e t

one_first : (kind : ℕ) (bytes : List ℕ) → Some kind ≡ slice_get bytes 0 → kind < 64 → varint_at bytes ≡ Some (kind, drop 1 bytes)
one_first kind [] first low = absurd (cc)
one_first kind (x ∷ xs) first low =
    let is : kind ≡ x = cc in
    one_byte kind (x ∷ xs) (omega arith) is low

-- a type of one byte, in the first piece
pub known_first : (kinds : FrameKinds) (kind : ℕ) (pieces : List (List ℕ)) → Some kind ≡ slice_get (first_bytes pieces) 0 → kind < 64 → is_known_type kinds kind ≡ true
    → unknown_size kinds (concat pieces) ≡ None
known_first kinds kind [] first low t = absurd (cc)
known_first kinds kind (p ∷ pieces) first low t = known_kind kinds kind (p ++ concat pieces) (drop 1 p ++ concat pieces) (reads_more kind p (drop 1 p) (concat pieces) (one_first kind p first low)) t

by_number : (kinds : FrameKinds) (bytes : List ℕ) (size kind : ℕ) (mid : List ℕ) → is_known_type kinds kind ≡ false → varint_at bytes ≡ Some (kind, mid) → unknown_size kinds bytes ≡ Some size → IsUnknownHead kinds bytes size
by_number kinds bytes size kind mid t e is = elim (cases_number mid) [
  | inl none ↦ let wrong : None ≡ Some size = sym (at_kind kinds kind bytes mid false e t ∙ ap (size_with (length bytes)) none) ∙ is in absurd (cc)
  | inr n ↦ record {
    kind = kind;
    number = n.0;
    mid = mid;
    behind = n.1;
    kind_at = e;
    number_at = n.2;
    unknown = t;
    size_is = ap (value_of 0) (sym is ∙ at_kind kinds kind bytes mid false e t ∙ ap (size_with (length bytes)) n.2);
  }
]

by_kind : (kinds : FrameKinds) (b : Bool) (bytes : List ℕ) (size kind : ℕ) (mid : List ℕ) → is_known_type kinds kind ≡ b → varint_at bytes ≡ Some (kind, mid) → unknown_size kinds bytes ≡ Some size → IsUnknownHead kinds bytes size
by_kind kinds true bytes size kind mid t e is = let wrong : None ≡ Some size = sym (at_kind kinds kind bytes mid true e t) ∙ is in absurd (cc)
by_kind kinds false bytes size kind mid t e is = by_number kinds bytes size kind mid t e is

pub unknown_head : (kinds : FrameKinds) (bytes : List ℕ) (size : ℕ) → unknown_size kinds bytes ≡ Some size → IsUnknownHead kinds bytes size
unknown_head kinds bytes size is = elim (cases_number bytes) [
  | inl none ↦ let wrong : None ≡ Some size = sym (no_kind kinds bytes none) ∙ is in absurd (cc)
  | inr k ↦ by_kind kinds (is_known_type kinds k.0) bytes size k.0 k.1 refl k.2 is
]

pub size_of_head : (kinds : FrameKinds) (bytes : List ℕ) (size : ℕ) → IsUnknownHead kinds bytes size → unknown_size kinds bytes ≡ Some size
size_of_head kinds bytes size h =
    at_kind kinds h.kind bytes h.mid false h.kind_at h.unknown ∙ ap (size_with (length bytes)) h.number_at ∙ ap Some (sym h.size_is)

-- the head takes some bytes
pub inside : (kinds : FrameKinds) (bytes : List ℕ) (size : ℕ) → (h : IsUnknownHead kinds bytes size) → length h.behind < length bytes
inside kinds bytes size h = omega (arith, shorter h.kind bytes h.mid h.kind_at, shorter h.number h.mid h.behind h.number_at)

-- **More bytes leave its size as it is.**
pub unknown_more : (kinds : FrameKinds) (bytes more : List ℕ) (size : ℕ) → unknown_size kinds bytes ≡ Some size → unknown_size kinds (bytes ++ more) ≡ Some size
unknown_more kinds bytes more size is =
    let h = unknown_head kinds bytes size is in
    size_of_head kinds (bytes ++ more) size (record {
      kind = h.kind;
      number = h.number;
      mid = h.mid ++ more;
      behind = h.behind ++ more;
      kind_at = reads_more h.kind bytes h.mid more h.kind_at;
      number_at = reads_more h.number h.mid h.behind more h.number_at;
      unknown = h.unknown;
      size_is = omega (arith, h.size_is, length-append bytes more, length-append h.behind more, inside kinds bytes size h);
    })

-- the tests that say so, one by one
pub record AreNone (kinds : FrameKinds) (kind : ℕ) : Type 0 where
  pub session : is_session kinds kind ≡ false
  pub update : is_update kinds kind ≡ false
  pub plain : (kind == 0) ≡ false
  pub headers : (kind == 1) ≡ false
  pub cancel : (kind == 3) ≡ false
  pub settings : (kind == 4) ≡ false
  pub promise : (kind == 5) ≡ false
  pub goaway : (kind == 7) ≡ false
  pub most : (kind == 13) ≡ false
  pub http2 : is_http2 kind ≡ false

pub tests : (kinds : FrameKinds) (kind : ℕ) → is_known_type kinds kind ≡ false → AreNone kinds kind
tests kinds kind e =
    let a = or_parts (is_session kinds kind) _ e in
    let u = or_parts (is_update kinds kind) _ a.1 in
    let b = or_parts (kind == 0) _ u.1 in
    let c = or_parts (kind == 1) _ b.1 in
    let d = or_parts (kind == 3) _ c.1 in
    let f = or_parts (kind == 4) _ d.1 in
    let g = or_parts (kind == 5) _ f.1 in
    let h = or_parts (kind == 7) _ g.1 in
    let i = or_parts (kind == 13) _ h.1 in
    record { session = a.0; update = u.0; plain = b.0; headers = c.0; cancel = d.0; settings = f.0; promise = g.0; goaway = h.0; most = i.0; http2 = i.1 }

-- **While it is under way it is less than a frame, and asks for all of itself.**
pub unknown_waits : (kinds : FrameKinds) (bytes : List ℕ) (size : ℕ) → unknown_size kinds bytes ≡ Some size → length bytes < size → frame_by kinds bytes ≡ Unfinished size
unknown_waits kinds bytes size is few =
    let h = unknown_head kinds bytes size is in
    let t = tests kinds h.kind h.unknown in
    let short : length h.behind < h.number = omega (arith, h.size_is, few, inside kinds bytes size h) in
    at_head kinds h.kind h.number bytes h.mid h.behind h.kind_at h.number_at ∙ rw (t.session, t.plain, lt-ltb (length h.behind) h.number short) (ap Unfinished (sym h.size_is))

frame_of_unknown : (kinds : FrameKinds) (kind : ℕ) (payload rest : List ℕ) → AreNone kinds kind → frame_of kind payload rest ≡ Unknown kind rest
unfolding frame_of
frame_of_unknown kinds kind payload rest t = rw (t.headers, t.cancel, t.settings, t.promise, t.goaway, t.most, t.http2) refl

-- what is left behind a number is the end of the bytes
behind_number : (v n : ℕ) (bytes rest : List ℕ) → varint_at bytes ≡ Some (v, rest) → drop (length bytes - length rest + n) bytes ≡ drop n rest
behind_number v n bytes rest e =
    let b = begins v bytes rest e in
    let size : length bytes - length rest + n ≡ length (b.first ∷ b.more) + n = omega (arith, used v bytes rest b) in
    ap (λ m. drop m bytes) size ∙ ap (drop (length (b.first ∷ b.more) + n)) b.parts ∙ drop-append-add (b.first ∷ b.more) rest n

-- **Once it is whole it is an unknown frame, and so many bytes are passed.**
pub unknown_whole : (kinds : FrameKinds) (bytes : List ℕ) (size : ℕ) → unknown_size kinds bytes ≡ Some size → size ≤ length bytes → (kind : ℕ) × (frame_by kinds bytes ≡ Unknown kind (drop size bytes))
unknown_whole kinds bytes size is all =
    let h = unknown_head kinds bytes size is in
    let t = tests kinds h.kind h.unknown in
    let there : h.number ≤ length h.behind = omega (arith, h.size_is, all, inside kinds bytes size h) in
    let a = shorter h.kind bytes h.mid h.kind_at in
    let b = shorter h.number h.mid h.behind h.number_at in
    let sum : size ≡ length bytes - length h.mid + (length h.mid - length h.behind + h.number) = omega (arith, h.size_is, a, b) in
    let rest : drop size bytes ≡ drop h.number h.behind =
    ap (λ m. drop m bytes) sum ∙ behind_number h.kind (length h.mid - length h.behind + h.number) bytes h.mid h.kind_at ∙ behind_number h.number h.number h.mid h.behind h.number_at in (
      h.kind,
      at_head kinds h.kind h.number bytes h.mid h.behind h.kind_at h.number_at
          ∙ rw (t.session, t.plain, le-ltb (length h.behind) h.number there, t.update) (frame_of_unknown kinds h.kind (take h.number h.behind) (drop h.number h.behind) t)
          ∙ ap (Unknown h.kind) (sym rest),
    )

-- its head is whole
pub unknown_has_head : (kinds : FrameKinds) (bytes : List ℕ) (size : ℕ) → unknown_size kinds bytes ≡ Some size → has_head bytes ≡ true
unknown_has_head kinds bytes size is = let h = unknown_head kinds bytes size is in head_is_whole h.kind h.number bytes h.mid h.behind h.kind_at h.number_at
