-- What holds of frames that are longer than their reader takes, and of the unknown ones in front of them.
use Rattle.std.proofs.Common.{◌≡◌, ℕ, ◌+◌, ◌-◌, ◌<◌, ◌≤◌, Bool, true, false, ◌&&◌, ◌||◌, ◌==◌, List, [], ◌∷◌, ◌++◌, length, take, drop, nat_lt, nat_le, if◌then◌else◌, arith, ap, sym, subst, ◌∙◌, refl, inl, inr, ◌⊎◌, Option, Some, None, Result, Ok, Err, zero, suc}
use Rattle.std.proofs.lemmas.Bool.{and_parts, and_right, or_parts, true≢false, le-ltb, le-leb, lt-ltb, eqb-true, leb-true, leb-false, ne_eqb}
use Rattle.h3_coding.specs.Varint.{varint_at}
use Rattle.h3_coding.specs.VarintLaws.{cases_number, reads_more}
use Rattle.h3_proto.specs.Config.{is_limit}
use Rattle.h3_proto.specs.Settings.{settings_of}
use Rattle.h3_proto.specs.declared.frame.SettingsError.{SettingsError}
use Rattle.h3_frames.specs.ExcessiveFrames.{begins_section, head_said, is_excessive_by, is_kept_whole, is_long_update, is_of_type, is_too_long, length_said, says_long_update, says_too_much, tells_too_much}
use Rattle.h3_frames.specs.FrameLaws.{at_no_kind, at_no_number, at_head, no_update}
use Rattle.h3_frames.specs.Fronts.{IsFinished, IsKept, IsKnown}
use Rattle.h3_frames.specs.Frames.{Front, Whole, Unknown, Refused, Unfinished, alone, one_number, settings_frame, promise_frame, is_http2, frame_of, frame_known, update_frame, with_head, frame_by, is_session, is_update}
use Rattle.h3_frames.specs.Update.{is_update_type}
use Rattle.h3_frames.specs.Known.{known_by}
use Rattle.h3_frames.specs.KnownLaws.{known-other, known-unknown}
use Rattle.h3_frames.specs.declared.proto.frame.PayloadLen.{PayloadLen}
use Rattle.h3_frames.specs.declared.proto.frame.Frame.{Frame}
use Rattle.h3_frames.specs.declared.proto.frame.Frame.TheVariants as frame
use Rattle.h3_frames.specs.declared.frame.kinds.FrameKinds.{FrameKinds}

-- **What is too long is told by what the head says.**
excess_by : (kinds : FrameKinds) (most : ℕ) (bytes : List ℕ) → is_excessive_by kinds most bytes ≡ (is_limit most && tells_too_much kinds most (head_said (varint_at bytes)))
excess_by kinds most bytes = by_kind (varint_at bytes)
  where
    nothing : (u l : Bool) → ((u && (l && false)) || (l && false)) ≡ (l && false)
    nothing true true = refl
    nothing true false = refl
    nothing false true = refl
    nothing false false = refl

    joined : (l u t k n : Bool) → ((u && (l && ((u && t) && n))) || (l && (k && n))) ≡ (l && ((k || (u && t)) && n))
    joined false true t k n = refl
    joined false false t k n = refl
    joined true false t true n = refl
    joined true false t false n = refl
    joined true true true true true = refl
    joined true true true true false = refl
    joined true true true false true = refl
    joined true true true false false = refl
    joined true true false true n = refl
    joined true true false false n = refl

    by_number : (kind : ℕ) (o : Option (ℕ × List ℕ))
        → ((kinds.updates && (is_limit most && is_long_update kinds most kind o)) || (is_limit most && is_too_long most kind o)) ≡ (is_limit most && ((is_kept_whole kind || is_update kinds kind) && nat_lt most (length_said o)))
    by_number kind None =
        nothing kinds.updates (is_limit most)
        ∙ sym (ap (λ b. is_limit most && b) (and_right (is_kept_whole kind || is_update kinds kind) (nat_lt most 0) (le-ltb most 0 (omega arith))))
    by_number kind (Some p) = joined (is_limit most) kinds.updates (is_update_type kind) (is_kept_whole kind) (nat_lt most p.0)

    by_kind : (x : Option (ℕ × List ℕ)) → ((kinds.updates && (is_limit most && says_long_update kinds most x)) || (is_limit most && says_too_much most x)) ≡ (is_limit most && tells_too_much kinds most (head_said x))
    by_kind None = nothing kinds.updates (is_limit most)
    by_kind (Some p) = by_number p.0 (varint_at p.1)

pub none_excessive_by : (kinds : FrameKinds) (most : ℕ) (bytes : List ℕ) → is_limit most ≡ false → is_excessive_by kinds most bytes ≡ false
none_excessive_by kinds most bytes none = excess_by kinds most bytes ∙ ap (λ b. b && tells_too_much kinds most (head_said (varint_at bytes))) none

-- What is too long is so by a limit.
pub excessive_limited : (kinds : FrameKinds) (most : ℕ) (bytes : List ℕ) → is_excessive_by kinds most bytes ≡ true → is_limit most ≡ true
excessive_limited kinds most bytes e = (and_parts (is_limit most) (tells_too_much kinds most (head_said (varint_at bytes))) (sym (excess_by kinds most bytes) ∙ e)).0

-- What is kept has a type from 1 to 13,
kept_within : (kind : ℕ) → is_kept_whole kind ≡ true → (0 < kind) × (kind < 14)
kept_within kind kept = by_test (nat_le 1 kind && nat_le kind 9) refl kept
  where
    by_test : (b : Bool) → (nat_le 1 kind && nat_le kind 9) ≡ b → (b || (kind == 13)) ≡ true → (0 < kind) × (kind < 14)
    by_test true e h =
        let parts = and_parts (nat_le 1 kind) (nat_le kind 9) e in
        (omega (arith, leb-true 1 kind parts.0), omega (arith, leb-true kind 9 parts.1))
    by_test false e h = let is = eqb-true kind 13 h in (omega (arith, is), omega (arith, is))

-- and what is not kept, and is no DATA, has one above 9.
not_kept_above : (kind : ℕ) → is_kept_whole kind ≡ false → 0 < kind → (9 < kind) × ((kind == 13) ≡ false)
not_kept_above kind none some =
    let parts = or_parts (nat_le 1 kind && nat_le kind 9) (kind == 13) none in
    (leb-false kind 9 (ap (λ b. b && nat_le kind 9) (sym (le-leb 1 kind some)) ∙ parts.0), parts.1)

kept_known : (x : Front) → IsKept x → IsKnown x
kept_known (Unknown kind rest) h = absurd h
kept_known (Whole f rest) h = tt
kept_known (Refused e) h = tt
kept_known (Unfinished least) h = tt

test : (b : Bool) (x y : Front) → (b ≡ true → IsKept x) → (b ≡ false → IsKept y) → IsKept (if b then x else y)
test true x y h k = h refl
test false x y h k = k refl

alone_kept : (bytes : List ℕ) (f : Frame PayloadLen) (rest : List ℕ) → IsKept (Whole f rest) → IsKept (alone bytes f rest)
alone_kept [] f rest h = h
alone_kept (byte ∷ bytes) f rest h = tt

number_kept : (o : Option (ℕ × List ℕ)) (make : ℕ → Frame PayloadLen) (rest : List ℕ) → ((n : ℕ) → IsKept (Whole (make n) rest)) → IsKept (one_number o make rest)
number_kept None make rest h = tt
number_kept (Some p) make rest h = alone_kept p.1 (make p.0) rest (h p.0)

settings_kept : (r : Result (List (ℕ × ℕ)) SettingsError) (rest : List ℕ) → IsKept (settings_frame r rest)
settings_kept (Ok pairs) rest = tt
settings_kept (Err e) rest = tt

update_kept : (kind : ℕ) (o : Option (ℕ × List ℕ)) (rest : List ℕ) → IsKept (update_frame kind o rest)
update_kept kind None rest = tt
update_kept kind (Some p) rest = tt

promise_kept : (o : Option (ℕ × List ℕ)) (rest : List ℕ) → IsKept (promise_frame o rest)
promise_kept None rest = tt
promise_kept (Some p) rest = tt

pub none_left : (kind : ℕ) → is_kept_whole kind ≡ true → (kind == 1) ≡ false → (kind == 3) ≡ false → (kind == 4) ≡ false → (kind == 5) ≡ false → (kind == 7) ≡ false → (kind == 13) ≡ false → is_http2 kind ≡ false → ⊥
none_left zero kept a b c d e f g = cc
none_left (suc zero) kept a b c d e f g = cc
none_left (suc (suc zero)) kept a b c d e f g = cc
none_left (suc (suc (suc zero))) kept a b c d e f g = cc
none_left (suc (suc (suc (suc zero)))) kept a b c d e f g = cc
none_left (suc (suc (suc (suc (suc zero))))) kept a b c d e f g = cc
none_left (suc (suc (suc (suc (suc (suc zero)))))) kept a b c d e f g = cc
none_left (suc (suc (suc (suc (suc (suc (suc zero))))))) kept a b c d e f g = cc
none_left (suc (suc (suc (suc (suc (suc (suc (suc zero)))))))) kept a b c d e f g = cc
none_left (suc (suc (suc (suc (suc (suc (suc (suc (suc zero))))))))) kept a b c d e f g = cc
none_left (suc (suc (suc (suc (suc (suc (suc (suc (suc (suc zero)))))))))) kept a b c d e f g = cc
none_left (suc (suc (suc (suc (suc (suc (suc (suc (suc (suc (suc zero))))))))))) kept a b c d e f g = cc
none_left (suc (suc (suc (suc (suc (suc (suc (suc (suc (suc (suc (suc zero)))))))))))) kept a b c d e f g = cc
none_left (suc (suc (suc (suc (suc (suc (suc (suc (suc (suc (suc (suc (suc zero))))))))))))) kept a b c d e f g = cc
none_left (suc (suc (suc (suc (suc (suc (suc (suc (suc (suc (suc (suc (suc (suc n)))))))))))))) kept a b c d e f g = omega (arith, (kept_within (suc (suc (suc (suc (suc (suc (suc (suc (suc (suc (suc (suc (suc (suc n)))))))))))))) kept).1)

frame_kept : (kind : ℕ) (payload rest : List ℕ) → is_kept_whole kind ≡ true → IsKept (frame_of kind payload rest)
unfolding frame_of
frame_kept kind payload rest kept =
    test (kind == 1) _ _ (λ t. tt) (λ a.
    test (kind == 3) _ _ (λ t. number_kept (varint_at payload) (λ id. frame.CancelPush id) rest (λ n. tt)) (λ b.
    test (kind == 4) _ _ (λ t. settings_kept (settings_of payload) rest) (λ c.
    test (kind == 5) _ _ (λ t. promise_kept (varint_at payload) rest) (λ d.
    test (kind == 7) _ _ (λ t. number_kept (varint_at payload) (λ id. frame.Goaway id) rest (λ n. tt)) (λ e.
    test (kind == 13) _ _ (λ t. number_kept (varint_at payload) (λ id. frame.MaxPushId id) rest (λ n. tt)) (λ f.
    test (is_http2 kind) _ _ (λ t. tt) (λ g. absurd (none_left kind kept a b c d e f g))))))))

no_zero : (kind : ℕ) → is_kept_whole kind ≡ true → (kind == 0) ≡ true → ⊥
no_zero kind kept e = omega (arith, (kept_within kind kept).0, eqb-true kind 0 e)

known_kept : (kinds : FrameKinds) (kind : ℕ) (payload rest : List ℕ) → is_kept_whole kind ≡ true → IsKept (frame_known kinds kind payload rest)
known_kept kinds kind payload rest kept = test (is_update kinds kind) _ _ (λ t. update_kept kind (varint_at payload) rest) (λ other. frame_kept kind payload rest kept)

-- What is kept whole is.
head_kept : (kinds : FrameKinds) (size kind number : ℕ) (behind : List ℕ) → is_kept_whole kind ≡ true → IsKept (with_head kinds size kind number behind)
head_kept kinds size kind number behind kept =
    test (is_session kinds kind) _ _ (λ t. tt) (λ session. test (kind == 0) _ _ (λ t. absurd (no_zero kind kept t)) (λ other.
    test (nat_lt (length behind) number) _ _ (λ t. tt) (λ there. known_kept kinds kind (take number behind) (drop number behind) kept)))

head_known : (kinds : FrameKinds) (size kind number : ℕ) (behind : List ℕ) → is_kept_whole kind ≡ true → IsKnown (with_head kinds size kind number behind)
head_known kinds size kind number behind kept = kept_known (with_head kinds size kind number behind) (head_kept kinds size kind number behind kept)

-- DATA and streams of WebTransport are known too,
handed_known : (kinds : FrameKinds) (size kind number : ℕ) (behind : List ℕ) → ((kind == 0) || is_session kinds kind) ≡ true → IsKnown (with_head kinds size kind number behind)
handed_known kinds size kind number behind handed = by_test (is_session kinds kind) (kind == 0) handed
  where
    by_test : (a b : Bool) → (b || a) ≡ true
        → IsKnown (if a then Whole (frame.WebTransportStream number) behind
        else (if b then Whole (frame.Data (record { 0 = number })) behind
        else (if nat_lt (length behind) number then Unfinished (size - length behind + number)
        else frame_known kinds kind (take number behind) (drop number behind))))
    by_test true b h = tt
    by_test false true h = tt
    by_test false false h = absurd (cc)

-- updates where they are known,
update_known : (kinds : FrameKinds) (size kind number : ℕ) (behind : List ℕ) → is_update kinds kind ≡ true → IsKept (with_head kinds size kind number behind)
update_known kinds size kind number behind update =
    test (is_session kinds kind) _ _ (λ t. tt) (λ session. test (kind == 0) _ _ (λ t. absurd (no_data_update kinds kind update t)) (λ other.
    test (nat_lt (length behind) number) _ _ (λ t. tt) (λ there. test (is_update kinds kind) _ _ (λ t. update_kept kind (varint_at (take number behind)) (drop number behind)) (λ none. absurd (true≢false (sym update ∙ none))))))
  where
    no_data_update : (kinds : FrameKinds) (kind : ℕ) → is_update kinds kind ≡ true → (kind == 0) ≡ true → ⊥
    no_data_update kinds kind is zero_is =
        let none : is_update kinds kind ≡ false = subst (λ n. is_update kinds n ≡ false) (sym (eqb-true kind 0 zero_is)) (no_update kinds 0 refl) in
        true≢false (sym is ∙ none)

-- and all others are not.
frame_unknown : (kind : ℕ) (payload rest : List ℕ) → is_kept_whole kind ≡ false → (kind == 0) ≡ false → frame_of kind payload rest ≡ Unknown kind rest
unfolding frame_of
frame_unknown kind payload rest none other =
    let above = not_kept_above kind none (some kind other) in
    rw (
      ne_eqb kind 1 (λ e. omega (arith, above.0, e)),
      ne_eqb kind 3 (λ e. omega (arith, above.0, e)),
      ne_eqb kind 4 (λ e. omega (arith, above.0, e)),
      ne_eqb kind 5 (λ e. omega (arith, above.0, e)),
      ne_eqb kind 7 (λ e. omega (arith, above.0, e)),
      above.1,
      ne_eqb 2 kind (λ e. omega (arith, above.0, e)),
      ne_eqb 6 kind (λ e. omega (arith, above.0, e)),
      ne_eqb 8 kind (λ e. omega (arith, above.0, e)),
      ne_eqb 9 kind (λ e. omega (arith, above.0, e)),
    ) refl
  where
    some : (n : ℕ) → (n == 0) ≡ false → 0 < n
    some zero e = absurd (cc)
    some (suc n) e = omega arith

-- **No frame in front of these is passed.** A head that is not whole,
pub stays_none : (kinds : FrameKinds) (bytes : List ℕ) → varint_at bytes ≡ None → known_by kinds bytes ≡ bytes
stays_none kinds bytes e = known-other kinds bytes (subst IsKnown (sym (at_no_kind kinds bytes e)) tt)

pub stays_begun : (kinds : FrameKinds) (kind : ℕ) (bytes mid : List ℕ) → varint_at bytes ≡ Some (kind, mid) → varint_at mid ≡ None → known_by kinds bytes ≡ bytes
stays_begun kinds kind bytes mid e k = known-other kinds bytes (subst IsKnown (sym (at_no_number kinds kind bytes mid e k)) tt)

-- one of a frame whose payload is kept, an update among them, or is handed out as it comes,
pub stays_kept : (kinds : FrameKinds) (kind number : ℕ) (bytes mid behind : List ℕ) → is_kept_whole kind ≡ true → varint_at bytes ≡ Some (kind, mid) → varint_at mid ≡ Some (number, behind) → known_by kinds bytes ≡ bytes
stays_kept kinds kind number bytes mid behind kept e k = known-other kinds bytes (subst IsKnown (sym (at_head kinds kind number bytes mid behind e k)) (head_known kinds (length bytes) kind number behind kept))

pub stays_update : (kinds : FrameKinds) (kind number : ℕ) (bytes mid behind : List ℕ) → is_update kinds kind ≡ true → varint_at bytes ≡ Some (kind, mid) → varint_at mid ≡ Some (number, behind) → known_by kinds bytes ≡ bytes
stays_update kinds kind number bytes mid behind update e k =
    known-other kinds bytes (subst IsKnown (sym (at_head kinds kind number bytes mid behind e k)) (kept_known (with_head kinds (length bytes) kind number behind) (update_known kinds (length bytes) kind number behind update)))

pub stays_handed : (kinds : FrameKinds) (kind number : ℕ) (bytes mid behind : List ℕ) → ((kind == 0) || is_session kinds kind) ≡ true → varint_at bytes ≡ Some (kind, mid) → varint_at mid ≡ Some (number, behind) → known_by kinds bytes ≡ bytes
stays_handed kinds kind number bytes mid behind handed e k = known-other kinds bytes (subst IsKnown (sym (at_head kinds kind number bytes mid behind e k)) (handed_known kinds (length bytes) kind number behind handed))

-- and one of an unknown frame that is not whole. One that is whole is left out.
unknown_head : (kinds : FrameKinds) (size kind number : ℕ) (behind : List ℕ) → is_kept_whole kind ≡ false → ((kind == 0) || is_session kinds kind) ≡ false → is_update kinds kind ≡ false
    → with_head kinds size kind number behind ≡ (if nat_lt (length behind) number then Unfinished (size - length behind + number) else Unknown kind (drop number behind))
unknown_head kinds size kind number behind none other update =
    let parts = or_parts (kind == 0) (is_session kinds kind) other in
    rw (parts.1, parts.0, update, frame_unknown kind (take number behind) (drop number behind) none parts.0) refl

pub stays_unknown : (kinds : FrameKinds) (kind number : ℕ) (bytes mid behind : List ℕ) → is_kept_whole kind ≡ false → ((kind == 0) || is_session kinds kind) ≡ false → is_update kinds kind ≡ false → varint_at bytes ≡ Some (kind, mid) → varint_at mid ≡ Some (number, behind)
    → length behind < number → known_by kinds bytes ≡ bytes
stays_unknown kinds kind number bytes mid behind none other update e k short =
    let front = at_head kinds kind number bytes mid behind e k ∙ unknown_head kinds (length bytes) kind number behind none other update in
    let waits : frame_by kinds bytes ≡ Unfinished (length bytes - length behind + number) =
    front ∙ ap (λ b. if b then Unfinished (length bytes - length behind + number) else Unknown kind (drop number behind)) (lt-ltb (length behind) number short) in
    known-other kinds bytes (subst IsKnown (sym waits) tt)

pub unknown_passed : (kinds : FrameKinds) (kind number : ℕ) (bytes mid behind : List ℕ) → is_kept_whole kind ≡ false → ((kind == 0) || is_session kinds kind) ≡ false → is_update kinds kind ≡ false → varint_at bytes ≡ Some (kind, mid) → varint_at mid ≡ Some (number, behind)
    → number ≤ length behind → known_by kinds bytes ≡ known_by kinds (drop number behind)
unknown_passed kinds kind number bytes mid behind none other update e k there =
    let front = at_head kinds kind number bytes mid behind e k ∙ unknown_head kinds (length bytes) kind number behind none other update in
    let whole : frame_by kinds bytes ≡ Unknown kind (drop number behind) =
    front ∙ ap (λ b. if b then Unfinished (length bytes - length behind + number) else Unknown kind (drop number behind)) (le-ltb (length behind) number there) in
    known-unknown kinds kind bytes (drop number behind) whole

-- **So the head says what the first frame that is not passed says.**
says : (kinds : FrameKinds) (bytes : List ℕ) (o : Option (ℕ × List ℕ)) → known_by kinds bytes ≡ bytes → varint_at bytes ≡ o → head_said o ≡ head_said (varint_at (known_by kinds bytes))
says kinds bytes o stays e = sym (ap (λ b. head_said (varint_at b)) stays ∙ ap head_said e)

pub none_says : (kinds : FrameKinds) (bytes : List ℕ) → varint_at bytes ≡ None → None ≡ head_said (varint_at (known_by kinds bytes))
none_says kinds bytes e = says kinds bytes None (stays_none kinds bytes e) e

with_length : (kind : ℕ) (mid : List ℕ) (o : Option (ℕ × List ℕ)) → varint_at mid ≡ o → Some (kind, length_said o) ≡ head_said (Some (kind, mid))
with_length kind mid o k = ap (λ n. Some (kind, length_said n)) (sym k)

pub begun_says : (kinds : FrameKinds) (kind : ℕ) (bytes mid : List ℕ) → varint_at bytes ≡ Some (kind, mid) → varint_at mid ≡ None → Some (kind, 0) ≡ head_said (varint_at (known_by kinds bytes))
begun_says kinds kind bytes mid e k = with_length kind mid None k ∙ says kinds bytes (Some (kind, mid)) (stays_begun kinds kind bytes mid e k) e

-- where that stays, and its head is whole
pub whole_says : (kinds : FrameKinds) (kind number : ℕ) (bytes mid behind : List ℕ) → known_by kinds bytes ≡ bytes → varint_at bytes ≡ Some (kind, mid) → varint_at mid ≡ Some (number, behind) → Some (kind, number) ≡ head_said (varint_at (known_by kinds bytes))
whole_says kinds kind number bytes mid behind stays e k = with_length kind mid (Some (number, behind)) k ∙ says kinds bytes (Some (kind, mid)) stays e

pub waiting_says : (kinds : FrameKinds) (kind number : ℕ) (bytes mid behind : List ℕ) → is_kept_whole kind ≡ false → ((kind == 0) || is_session kinds kind) ≡ false → is_update kinds kind ≡ false → varint_at bytes ≡ Some (kind, mid) → varint_at mid ≡ Some (number, behind)
    → length behind < number → Some (kind, number) ≡ head_said (varint_at (known_by kinds bytes))
waiting_says kinds kind number bytes mid behind none other update e k short = whole_says kinds kind number bytes mid behind (stays_unknown kinds kind number bytes mid behind none other update e k short) e k

-- A head that is not there is of no frame that is too long,
pub none_told : (kinds : FrameKinds) (most : ℕ) (bytes : List ℕ) → varint_at bytes ≡ None → is_excessive_by kinds most bytes ≡ false
none_told kinds most bytes e =
    excess_by kinds most bytes ∙ ap (λ o. is_limit most && tells_too_much kinds most (head_said o)) e ∙ and_right (is_limit most) false refl

pub no_kind : (kinds : FrameKinds) (most : ℕ) (bytes : List ℕ) → varint_at bytes ≡ None → is_excessive_by kinds most (known_by kinds bytes) ≡ false
no_kind kinds most bytes e = ap (is_excessive_by kinds most) (stays_none kinds bytes e) ∙ none_told kinds most bytes e

pub begun_told : (kinds : FrameKinds) (most kind : ℕ) (bytes mid : List ℕ) → varint_at bytes ≡ Some (kind, mid) → varint_at mid ≡ None → is_excessive_by kinds most bytes ≡ false
begun_told kinds most kind bytes mid e none =
    excess_by kinds most bytes ∙ ap (λ o. is_limit most && tells_too_much kinds most (head_said o)) e
    ∙ ap (λ o. is_limit most && ((is_kept_whole kind || is_update kinds kind) && nat_lt most (length_said o))) none
    ∙ and_right (is_limit most) _ (and_right (is_kept_whole kind || is_update kinds kind) (nat_lt most 0) (le-ltb most 0 (omega arith)))

-- Where a head is there, its type and length tell.
pub said_of : (kinds : FrameKinds) (most kind number : ℕ) (bytes mid behind : List ℕ) → varint_at bytes ≡ Some (kind, mid) → varint_at mid ≡ Some (number, behind)
    → is_excessive_by kinds most bytes ≡ (is_limit most && ((is_kept_whole kind || is_update kinds kind) && nat_lt most number))
said_of kinds most kind number bytes mid behind e k =
    excess_by kinds most bytes ∙ ap (λ o. is_limit most && tells_too_much kinds most (head_said o)) e
    ∙ ap (λ o. is_limit most && ((is_kept_whole kind || is_update kinds kind) && nat_lt most (length_said o))) k

-- one whose payload is kept tells,
pub kept_says : (kinds : FrameKinds) (most kind number : ℕ) (bytes mid behind : List ℕ) → is_limit most ≡ true → is_kept_whole kind ≡ true → varint_at bytes ≡ Some (kind, mid) → varint_at mid ≡ Some (number, behind)
    → is_excessive_by kinds most (known_by kinds bytes) ≡ nat_lt most number
kept_says kinds most kind number bytes mid behind limit kept e k =
    ap (is_excessive_by kinds most) (stays_kept kinds kind number bytes mid behind kept e k) ∙ said_of kinds most kind number bytes mid behind e k
    ∙ ap (λ b. b && ((is_kept_whole kind || is_update kinds kind) && nat_lt most number)) limit ∙ ap (λ b. (b || is_update kinds kind) && nat_lt most number) kept

-- and no other is too long.
not_kept : (kinds : FrameKinds) (most kind number : ℕ) (bytes mid behind : List ℕ) → is_kept_whole kind ≡ false → is_update kinds kind ≡ false → varint_at bytes ≡ Some (kind, mid) → varint_at mid ≡ Some (number, behind) → known_by kinds bytes ≡ bytes
    → is_excessive_by kinds most (known_by kinds bytes) ≡ false
not_kept kinds most kind number bytes mid behind none update e k stays =
    ap (is_excessive_by kinds most) stays ∙ said_of kinds most kind number bytes mid behind e k
    ∙ and_right (is_limit most) ((is_kept_whole kind || is_update kinds kind) && nat_lt most number) (ap (λ b. (b || is_update kinds kind) && nat_lt most number) none ∙ ap (λ b. b && nat_lt most number) update)

-- What is handed out is no update.
handed_update : (kinds : FrameKinds) (kind : ℕ) → ((kind == 0) || is_session kinds kind) ≡ true → is_update kinds kind ≡ false
handed_update kinds kind handed = no_update kinds kind (by_test (kind == 0) refl handed)
  where
    by_test : (b : Bool) → (kind == 0) ≡ b → (b || is_session kinds kind) ≡ true → is_update_type kind ≡ false
    by_test true e h = ap is_update_type (eqb-true kind 0 e)
    by_test false e h = ap is_update_type (eqb-true kind 0x41 (and_parts (kind == 0x41) kinds.sessions h).0)

pub handed_says : (kinds : FrameKinds) (most kind number : ℕ) (bytes mid behind : List ℕ) → is_kept_whole kind ≡ false → ((kind == 0) || is_session kinds kind) ≡ true → varint_at bytes ≡ Some (kind, mid) → varint_at mid ≡ Some (number, behind)
    → is_excessive_by kinds most (known_by kinds bytes) ≡ false
handed_says kinds most kind number bytes mid behind none handed e k =
    not_kept kinds most kind number bytes mid behind none (handed_update kinds kind handed) e k (stays_handed kinds kind number bytes mid behind handed e k)

pub data_says : (kinds : FrameKinds) (most kind number : ℕ) (bytes mid behind : List ℕ) → is_kept_whole kind ≡ false → kind ≡ 0 → varint_at bytes ≡ Some (kind, mid) → varint_at mid ≡ Some (number, behind)
    → is_excessive_by kinds most (known_by kinds bytes) ≡ false
data_says kinds most kind number bytes mid behind none is e k = handed_says kinds most kind number bytes mid behind none (subst (λ n. ((n == 0) || is_session kinds n) ≡ true) (sym is) refl) e k

pub unknown_says : (kinds : FrameKinds) (most kind number : ℕ) (bytes mid behind : List ℕ) → is_kept_whole kind ≡ false → ((kind == 0) || is_session kinds kind) ≡ false → is_update kinds kind ≡ false → varint_at bytes ≡ Some (kind, mid)
    → varint_at mid ≡ Some (number, behind) → length behind < number → is_excessive_by kinds most (known_by kinds bytes) ≡ false
unknown_says kinds most kind number bytes mid behind none other update e k short =
    not_kept kinds most kind number bytes mid behind none update e k (stays_unknown kinds kind number bytes mid behind none other update e k short)

pub unknown_begins : (kinds : FrameKinds) (kind number : ℕ) (bytes mid behind : List ℕ) → is_kept_whole kind ≡ false → ((kind == 0) || is_session kinds kind) ≡ false → is_update kinds kind ≡ false → varint_at bytes ≡ Some (kind, mid) → varint_at mid ≡ Some (number, behind)
    → length behind < number → begins_section (known_by kinds bytes) ≡ false
unknown_begins kinds kind number bytes mid behind none other update e k short =
    ap begins_section (stays_unknown kinds kind number bytes mid behind none other update e k short) ∙ ap (is_of_type 1) e ∙ ne_eqb kind 1 (λ is. absurd (no_section kind none is))
  where
    no_section : (n : ℕ) → is_kept_whole n ≡ false → n ≡ 1 → ⊥
    no_section n h is = let wrong : true ≡ false = ap is_kept_whole (sym is) ∙ h in cc

-- Where a frame is there, no byte behind it matters.
pub excessive_more : (kinds : FrameKinds) (most : ℕ) (bytes more : List ℕ) → IsFinished (frame_by kinds bytes) → is_excessive_by kinds most (bytes ++ more) ≡ is_excessive_by kinds most bytes
excessive_more kinds most bytes more there = elim (cases_number bytes) [
  | inl none ↦ absurd (subst IsFinished (at_no_kind kinds bytes none) there)
  | inr (kind, mid, e) ↦ by_number kind mid e (cases_number mid)
]
  where
    by_number : (kind : ℕ) (mid : List ℕ) → varint_at bytes ≡ Some (kind, mid) → (varint_at mid ≡ None) ⊎ ((v : ℕ) × (rest : List ℕ) × (varint_at mid ≡ Some (v, rest)))
        → is_excessive_by kinds most (bytes ++ more) ≡ is_excessive_by kinds most bytes
    by_number kind mid e (inl none) = absurd (subst IsFinished (at_no_number kinds kind bytes mid e none) there)
    by_number kind mid e (inr (number, behind, k)) =
        said_of kinds most kind number (bytes ++ more) (mid ++ more) (behind ++ more) (reads_more kind bytes mid more e) (reads_more number mid behind more k)
        ∙ sym (said_of kinds most kind number bytes mid behind e k)

-- DATA is never too long.
pub no_data : (kinds : FrameKinds) (most : ℕ) (bytes rest : List ℕ) (len : PayloadLen) → frame_by kinds bytes ≡ Whole (frame.Data len) rest → is_excessive_by kinds most bytes ≡ true → ⊥
no_data kinds most bytes rest len there excessive = elim (cases_number bytes) [
  | inl none ↦ let wrong : Unfinished (length bytes + 1) ≡ Whole (frame.Data len) rest = sym (at_no_kind kinds bytes none) ∙ there in cc
  | inr (kind, mid, e) ↦ by_number kind mid e (cases_number mid)
]
  where
    kept : (size kind number : ℕ) (behind : List ℕ) (b : Bool) → is_kept_whole kind ≡ b → (b || is_update kinds kind) ≡ true → IsKept (with_head kinds size kind number behind)
    kept size kind number behind true k h = head_kept kinds size kind number behind k
    kept size kind number behind false k h = update_known kinds size kind number behind h

    by_number : (kind : ℕ) (mid : List ℕ) → varint_at bytes ≡ Some (kind, mid) → (varint_at mid ≡ None) ⊎ ((v : ℕ) × (left : List ℕ) × (varint_at mid ≡ Some (v, left))) → ⊥
    by_number kind mid e (inl none) = let wrong : Unfinished (length bytes + 1) ≡ Whole (frame.Data len) rest = sym (at_no_number kinds kind bytes mid e none) ∙ there in cc
    by_number kind mid e (inr (number, behind, k)) =
        let said : (is_limit most && ((is_kept_whole kind || is_update kinds kind) && nat_lt most number)) ≡ true = sym (said_of kinds most kind number bytes mid behind e k) ∙ excessive in
        let whole = (and_parts (is_kept_whole kind || is_update kinds kind) (nat_lt most number) (and_parts (is_limit most) ((is_kept_whole kind || is_update kinds kind) && nat_lt most number) said).1).0 in
        subst IsKept (sym (at_head kinds kind number bytes mid behind e k) ∙ there) (kept (length bytes) kind number behind (is_kept_whole kind) refl whole)
