-- What holds of the frame that bytes begin with, whatever follows them.
use Rattle.std.proofs.Common.{◌≡◌, ℕ, ◌+◌, ◌<◌, ◌≤◌, ◌==◌, Bool, true, false, List, [], ◌∷◌, ◌++◌, length, take, drop, nat_lt, arith, sym, ◌∙◌, ap, subst, refl, inl, inr, ◌⊎◌, length-append, Option, Some, None, Result, Ok, Err, if◌then◌else◌}
use Rattle.std.proofs.lemmas.List.{take-append-le, drop-append-le, length-drop}
use Rattle.std.proofs.lemmas.Bool.{and_right, cases_lt, lt-ltb, le-ltb}
use Rattle.h3_coding.specs.Varint.{varint_at}
use Rattle.h3_coding.specs.VarintLaws.{cases_number, reads_more, shorter, none_at_end}
use Rattle.h3_proto.specs.Settings.{settings_of}
use Rattle.h3_proto.specs.declared.frame.SettingsError.{SettingsError}
use Rattle.h3_frames.specs.declared.proto.frame.PayloadLen.{PayloadLen}
use Rattle.h3_frames.specs.declared.proto.frame.Frame.{Frame}
use Rattle.h3_frames.specs.declared.proto.frame.Frame.TheVariants as frame
use Rattle.h3_frames.specs.Frames.{Front, Whole, Unknown, Refused, Unfinished, alone, one_number, settings_frame, promise_frame, is_http2, frame_of, frame_known, update_frame, with_head, with_number, with_kind, frame_by, is_session, is_update}
use Rattle.h3_frames.specs.Fronts.{IsFinished, with_more, IsBefore, tested, IsShorter}
use Rattle.h3_frames.specs.Update.{is_update_type}
use Rattle.h3_frames.specs.declared.frame.kinds.FrameKinds.{FrameKinds}

-- the three ways in which a front is read
pub at_no_kind : (kinds : FrameKinds) (bytes : List ℕ) → varint_at bytes ≡ None → frame_by kinds bytes ≡ Unfinished (length bytes + 1)
unfolding frame_by
at_no_kind kinds bytes e = ap (with_kind kinds (length bytes)) e

pub at_no_number : (kinds : FrameKinds) (kind : ℕ) (bytes mid : List ℕ) → varint_at bytes ≡ Some (kind, mid) → varint_at mid ≡ None → frame_by kinds bytes ≡ Unfinished (length bytes + 1)
unfolding frame_by
at_no_number kinds kind bytes mid e k = ap (with_kind kinds (length bytes)) e ∙ ap (with_number kinds (length bytes) kind) k

pub at_head : (kinds : FrameKinds) (kind number : ℕ) (bytes mid behind : List ℕ) → varint_at bytes ≡ Some (kind, mid) → varint_at mid ≡ Some (number, behind) → frame_by kinds bytes ≡ with_head kinds (length bytes) kind number behind
unfolding frame_by
at_head kinds kind number bytes mid behind e k = ap (with_kind kinds (length bytes)) e ∙ ap (with_number kinds (length bytes) kind) k

-- a type that is none of PRIORITY_UPDATE
pub no_update : (kinds : FrameKinds) (kind : ℕ) → is_update_type kind ≡ false → is_update kinds kind ≡ false
no_update kinds kind e = and_right kinds.updates (is_update_type kind) e

-- a fact that holds in both branches
either : (P : Front → Type 0) (b : Bool) (x y : Front) → P x → P y → P (if b then x else y)
either P true x y p q = p
either P false x y p q = q

both : (R : Front → Front → Type 0) (b : Bool) (x y z w : Front) → R x z → R y w → R (if b then x else y) (if b then z else w)
both R true x y z w p q = p
both R false x y z w p q = q

alone-finished : (p : List ℕ) (f : Frame PayloadLen) (r : List ℕ) → IsFinished (alone p f r) × IsBefore r (alone p f r)
alone-finished [] f r = (tt, refl)
alone-finished (x ∷ xs) f r = (tt, tt)

one_number-finished : (o : Option (ℕ × List ℕ)) (make : ℕ → Frame PayloadLen) (r : List ℕ) → IsFinished (one_number o make r) × IsBefore r (one_number o make r)
one_number-finished None make r = (tt, tt)
one_number-finished (Some p) make r = alone-finished p.1 (make p.0) r

settings-finished : (s : Result (List (ℕ × ℕ)) SettingsError) (r : List ℕ) → IsFinished (settings_frame s r) × IsBefore r (settings_frame s r)
settings-finished (Ok s) r = (tt, refl)
settings-finished (Err e) r = (tt, tt)

promise-finished : (o : Option (ℕ × List ℕ)) (r : List ℕ) → IsFinished (promise_frame o r) × IsBefore r (promise_frame o r)
promise-finished None r = (tt, tt)
promise-finished (Some p) r = (tt, refl)

pub frame_of-finished : (kind : ℕ) (payload r : List ℕ) → IsFinished (frame_of kind payload r) × IsBefore r (frame_of kind payload r)
unfolding frame_of
frame_of-finished kind payload r =
    let P = λ (x : Front). IsFinished x × IsBefore r x in
    either P (kind == 1) _ _ (tt, refl)
    (either P (kind == 3) _ _ (one_number-finished (varint_at payload) (λ id. frame.CancelPush id) r)
    (either P (kind == 4) _ _ (settings-finished (settings_of payload) r)
    (either P (kind == 5) _ _ (promise-finished (varint_at payload) r)
    (either P (kind == 7) _ _ (one_number-finished (varint_at payload) (λ id. frame.Goaway id) r)
    (either P (kind == 13) _ _ (one_number-finished (varint_at payload) (λ id. frame.MaxPushId id) r)
    (either P (is_http2 kind) _ _ (tt, tt) (tt, refl)))))))

alone-more : (p : List ℕ) (f : Frame PayloadLen) (r more : List ℕ) → alone p f (r ++ more) ≡ with_more (alone p f r) more
alone-more [] f r more = refl
alone-more (x ∷ xs) f r more = refl

one_number-more : (o : Option (ℕ × List ℕ)) (make : ℕ → Frame PayloadLen) (r more : List ℕ) → one_number o make (r ++ more) ≡ with_more (one_number o make r) more
one_number-more None make r more = refl
one_number-more (Some p) make r more = alone-more p.1 (make p.0) r more

settings-more : (s : Result (List (ℕ × ℕ)) SettingsError) (r more : List ℕ) → settings_frame s (r ++ more) ≡ with_more (settings_frame s r) more
settings-more (Ok s) r more = refl
settings-more (Err e) r more = refl

promise-more : (o : Option (ℕ × List ℕ)) (r more : List ℕ) → promise_frame o (r ++ more) ≡ with_more (promise_frame o r) more
promise-more None r more = refl
promise-more (Some p) r more = refl

pub frame_of-more : (kind : ℕ) (payload r more : List ℕ) → frame_of kind payload (r ++ more) ≡ with_more (frame_of kind payload r) more
unfolding frame_of
frame_of-more kind payload r more =
    let R = λ (x y : Front). x ≡ with_more y more in
    both R (kind == 1) _ _ _ _ refl
    (both R (kind == 3) _ _ _ _ (one_number-more (varint_at payload) (λ id. frame.CancelPush id) r more)
    (both R (kind == 4) _ _ _ _ (settings-more (settings_of payload) r more)
    (both R (kind == 5) _ _ _ _ (promise-more (varint_at payload) r more)
    (both R (kind == 7) _ _ _ _ (one_number-more (varint_at payload) (λ id. frame.Goaway id) r more)
    (both R (kind == 13) _ _ _ _ (one_number-more (varint_at payload) (λ id. frame.MaxPushId id) r more)
    (both R (is_http2 kind) _ _ _ _ refl refl))))))

update-finished : (kind : ℕ) (o : Option (ℕ × List ℕ)) (r : List ℕ) → IsFinished (update_frame kind o r) × IsBefore r (update_frame kind o r)
update-finished kind None r = (tt, tt)
update-finished kind (Some p) r = (tt, refl)

pub frame_known-finished : (kinds : FrameKinds) (kind : ℕ) (payload r : List ℕ) → IsFinished (frame_known kinds kind payload r) × IsBefore r (frame_known kinds kind payload r)
frame_known-finished kinds kind payload r =
    either (λ (x : Front). IsFinished x × IsBefore r x) (is_update kinds kind) _ _ (update-finished kind (varint_at payload) r) (frame_of-finished kind payload r)

update-more : (kind : ℕ) (o : Option (ℕ × List ℕ)) (r more : List ℕ) → update_frame kind o (r ++ more) ≡ with_more (update_frame kind o r) more
update-more kind None r more = refl
update-more kind (Some p) r more = refl

pub frame_known-more : (kinds : FrameKinds) (kind : ℕ) (payload r more : List ℕ) → frame_known kinds kind payload (r ++ more) ≡ with_more (frame_known kinds kind payload r) more
frame_known-more kinds kind payload r more =
    both (λ (x y : Front). x ≡ with_more y more) (is_update kinds kind) _ _ _ _ (update-more kind (varint_at payload) r more) (frame_of-more kind payload r more)

pub short_or_whole : (number : ℕ) (behind : List ℕ) → (nat_lt (length behind) number ≡ true) × (length behind < number) ⊎ (nat_lt (length behind) number ≡ false) × (number ≤ length behind)
short_or_whole number behind = elim (cases_lt (length behind) number) [
  | inl h ↦ inl (lt-ltb (length behind) number h, h)
  | inr h ↦ inr (le-ltb (length behind) number h, h)
]

past_payload : (kinds : FrameKinds) (size size' kind number : ℕ) (behind more : List ℕ) → (nat_lt (length behind) number ≡ true) × (length behind < number) ⊎ (nat_lt (length behind) number ≡ false) × (number ≤ length behind)
    → IsFinished (tested kinds false false size kind number behind) → tested kinds false false size' kind number (behind ++ more) ≡ with_more (tested kinds false false size kind number behind) more
past_payload kinds size size' kind number behind more (inl t) h = absurd (rw t.0 at h)
past_payload kinds size size' kind number behind more (inr t) h =
    let longer : number ≤ length (behind ++ more) = omega (arith, length-append behind more) in
    rw (t.0, le-ltb (length (behind ++ more)) number longer, take-append-le number behind more t.1, drop-append-le number behind more t.1)
    (frame_known-more kinds kind (take number behind) (drop number behind) more)

past_session : (kinds : FrameKinds) (a b : Bool) (size size' kind number : ℕ) (behind more : List ℕ) → IsFinished (tested kinds a b size kind number behind) → tested kinds a b size' kind number (behind ++ more) ≡ with_more (tested kinds a b size kind number behind) more
past_session kinds true b size size' kind number behind more h = refl
past_session kinds false true size size' kind number behind more h = refl
past_session kinds false false size size' kind number behind more h = past_payload kinds size size' kind number behind more (short_or_whole number behind) h

-- a head is read alike, whatever follows
past_head : (kinds : FrameKinds) (size size' kind number : ℕ) (behind more : List ℕ) → IsFinished (with_head kinds size kind number behind) → with_head kinds size' kind number (behind ++ more) ≡ with_more (with_head kinds size kind number behind) more
past_head kinds size size' kind number behind more = past_session kinds (is_session kinds kind) (kind == 0) size size' kind number behind more

-- what is read at the front is read there, whatever follows
pub frame_by-more : (kinds : FrameKinds) (bytes more : List ℕ) → IsFinished (frame_by kinds bytes) → frame_by kinds (bytes ++ more) ≡ with_more (frame_by kinds bytes) more
frame_by-more kinds bytes more h = elim (cases_number bytes) [
  | inl none ↦ absurd (subst IsFinished (at_no_kind kinds bytes none) h)
  | inr k ↦ elim (cases_number k.1) [
    | inl none ↦ absurd (subst IsFinished (at_no_number kinds k.0 bytes k.1 k.2 none) h)
    | inr n ↦
        let here = at_head kinds k.0 n.0 bytes k.1 n.1 k.2 n.2 in
        let there = at_head kinds k.0 n.0 (bytes ++ more) (k.1 ++ more) (n.1 ++ more) (reads_more k.0 bytes k.1 more k.2) (reads_more n.0 k.1 n.1 more n.2) in
        there ∙ past_head kinds (length bytes) (length (bytes ++ more)) k.0 n.0 n.1 more (subst IsFinished here h) ∙ ap (λ x. with_more x more) (sym here)
  ]
]

before_shorter : (n : ℕ) (r : List ℕ) (x : Front) → IsBefore r x → length r < n → IsShorter n x
before_shorter n r (Whole f rest) e h = rw e h
before_shorter n r (Unknown kind rest) e h = rw e h
before_shorter n r (Refused e') e h = tt
before_shorter n r (Unfinished k) e h = tt

head_shorter : (kinds : FrameKinds) (n size kind number : ℕ) (behind : List ℕ) → length behind < n → IsShorter n (with_head kinds size kind number behind)
head_shorter kinds n size kind number behind h =
    let P = IsShorter n in
    either P (is_session kinds kind) _ _ h (either P (kind == 0) _ _ h (either P (nat_lt (length behind) number) _ _ tt
    (before_shorter n (drop number behind) _ (frame_known-finished kinds kind (take number behind) (drop number behind)).1 (omega (arith, length-drop number behind, h)))))

pub frame_by-shorter : (kinds : FrameKinds) (bytes : List ℕ) → IsShorter (length bytes) (frame_by kinds bytes)
frame_by-shorter kinds bytes = elim (cases_number bytes) [
  | inl none ↦ subst (IsShorter (length bytes)) (sym (at_no_kind kinds bytes none)) tt
  | inr k ↦ elim (cases_number k.1) [
    | inl none ↦ subst (IsShorter (length bytes)) (sym (at_no_number kinds k.0 bytes k.1 k.2 none)) tt
    | inr n ↦ subst (IsShorter (length bytes)) (sym (at_head kinds k.0 n.0 bytes k.1 n.1 k.2 n.2))
        (head_shorter kinds (length bytes) (length bytes) k.0 n.0 n.1 (omega (arith, shorter k.0 bytes k.1 k.2, shorter n.0 k.1 n.1 n.2)))
  ]
]

-- no bytes are the front of a frame
pub frame_by-nil : (kinds : FrameKinds) → frame_by kinds [] ≡ Unfinished 1
frame_by-nil kinds = at_no_kind kinds [] none_at_end
