-- What the peer's control stream begins with, where SETTINGS has to come first (RFC 9114, section 6.2.1).
use Rattle.std.proofs.Common.{◌≡◌, ℕ, ◌+◌, Bool, true, false, not, ◌&&◌, ◌==◌, if◌then◌else◌, List, ◌++◌, length, take, drop, Some, None, Result, Ok, Err, refl, ap, sym, ◌∙◌, subst, inl, inr}
use Rattle.std.specs.Prelude.{◌⊎◌, is_some, nat_lt}
use Rattle.std.proofs.lemmas.Bool.{and_right, eqb-true}
use Rattle.h3_coding.specs.Varint.{varint_at}
use Rattle.h3_coding.specs.VarintLaws.{cases_number, reads_more}
use Rattle.h3_proto.specs.Settings.{settings_of}
use Rattle.h3_proto.specs.declared.frame.SettingsError.{SettingsError}
use Rattle.h3_proto.specs.declared.stream.Side.{Side}
use Rattle.h3_frames.specs.ExcessiveFrames.{is_excessive_by, is_long_update, is_too_long, says_long_update, says_too_much}
use Rattle.h3_frames.specs.FirstFrames.{begins_other, is_other}
use Rattle.h3_frames.specs.FrameLaws.{at_head, at_no_kind, at_no_number}
use Rattle.h3_frames.specs.Frames.{Front, Whole, Refused, Unfinished, frame_by, frame_known, frame_of, settings_frame, update_frame, with_head, plain_frames}
use Rattle.h3_frames.specs.Fronts.{IsKnown}
use Rattle.h3_frames.specs.Known.{known_by}
use Rattle.h3_frames.specs.KnownLaws.{known-other}
use Rattle.h3_frames.specs.declared.proto.frame.FrameError.{FrameError}
use Rattle.h3_frames.specs.declared.proto.frame.Frame.TheVariants as frame
use Rattle.h3_connection.specs.FirstSettings.{FirstRead, Fails, HasHead, NoHead, Nothing, Settings, SettingsFront, Bad, Came, Waits}
use Rattle.h3_connection.specs.PeerReading.{Peer, PeerFound, read_frame, refused_code, unless_fault, at_front, read_peer}
use Rattle.h3_connection.specs.OtherSettings.{with_others, with_told}
use Rattle.h3_connection.specs.PeerReadingLaws.{no_length, settings_stay, step_excessive, step_within}
use Rattle.h3_frames.specs.declared.frame.kinds.FrameKinds.{FrameKinds}

no_number : (kinds : FrameKinds) (bytes : List ℕ) (kind : ℕ) (mid : List ℕ) → varint_at bytes ≡ Some (kind, mid) → varint_at mid ≡ None → NoHead kinds bytes
no_number kinds bytes kind mid is none =
    record {
      other = ap is_other is ∙ ap (λ o. not (kind == 4) && is_some o) none ∙ and_right (not (kind == 4)) false refl;
      least = length bytes + 1;
      waits = at_no_number kinds kind bytes mid is none;
      small = λ limit. no_length kinds limit bytes (ap (says_long_update kinds limit) is ∙ ap (is_long_update kinds limit kind) none) (ap (says_too_much limit) is ∙ ap (is_too_long limit kind) none);
    }

pub cases_head : (kinds : FrameKinds) (bytes : List ℕ) → NoHead kinds bytes ⊎ HasHead bytes
cases_head kinds bytes = elim (cases_number bytes) [
  | inl none ↦ inl (record {
    other = ap is_other none;
    least = length bytes + 1;
    waits = at_no_kind kinds bytes none;
    small = λ limit. no_length kinds limit bytes (ap (says_long_update kinds limit) none) (ap (says_too_much limit) none);
  })
  | inr k ↦ elim (cases_number k.1) [
    | inl none ↦ inl (no_number kinds bytes k.0 k.1 k.2 none)
    | inr n ↦ inr (record { kind = k.0; number = n.0; mid = k.1; behind = n.1; kind_at = k.2; number_at = n.2 })
  ]
]

and_true : (b : Bool) → (b && true) ≡ b
and_true true = refl
and_true false = refl

pub head_tells : (bytes : List ℕ) → (h : HasHead bytes) → begins_other bytes ≡ not (h.kind == 4)
head_tells bytes h = ap is_other h.kind_at ∙ ap (λ o. not (h.kind == 4) && is_some o) h.number_at ∙ and_true (not (h.kind == 4))

-- more bytes do not change it
pub head_stays : (bytes more : List ℕ) → HasHead bytes → begins_other (bytes ++ more) ≡ begins_other bytes
head_stays bytes more h =
    head_tells (bytes ++ more) (record {
      kind = h.kind;
      number = h.number;
      mid = h.mid ++ more;
      behind = h.behind ++ more;
      kind_at = reads_more h.kind bytes h.mid more h.kind_at;
      number_at = reads_more h.number h.mid h.behind more h.number_at;
    })
    ∙ sym (head_tells bytes h)

pub other_stays : (bytes more : List ℕ) → begins_other bytes ≡ true → begins_other (bytes ++ more) ≡ true
other_stays bytes more is = elim (cases_head plain_frames bytes) [
  | inl none ↦ let wrong : true ≡ false = sym is ∙ none.other in absurd (cc)
  | inr h ↦ head_stays bytes more h ∙ is
]

settings_read : (r : Result (List (ℕ × ℕ)) SettingsError) (rest : List ℕ) → SettingsFront (settings_frame r rest)
settings_read (Ok pairs) rest = Came pairs rest refl
settings_read (Err e) rest = Bad _ refl

of_settings : (kinds : FrameKinds) (payload rest : List ℕ) → frame_known kinds 4 payload rest ≡ settings_frame (settings_of payload) rest
unfolding frame_of
of_settings kinds payload rest =
    ap (λ (b : Bool). (let x : Front = if b then update_frame 4 (varint_at payload) rest else frame_of 4 payload rest in x)) (and_right kinds.updates false refl)

by_length : (kinds : FrameKinds) (short : Bool) (least : ℕ) (payload rest : List ℕ) → SettingsFront (if short then Unfinished least else frame_known kinds 4 payload rest)
by_length kinds true least payload rest = Waits least refl
by_length kinds false least payload rest = subst SettingsFront (sym (of_settings kinds payload rest)) (settings_read (settings_of payload) rest)

not_false : (b : Bool) → not b ≡ false → b ≡ true
not_false true e = refl
not_false false e = absurd (cc)

settings_front : (kinds : FrameKinds) (bytes : List ℕ) → HasHead bytes → begins_other bytes ≡ false → SettingsFront (frame_by kinds bytes)
settings_front kinds bytes h is =
    let four : h.kind ≡ 4 = eqb-true h.kind 4 (not_false (h.kind == 4) (sym (head_tells bytes h) ∙ is)) in
    subst SettingsFront (sym (at_head kinds h.kind h.number bytes h.mid h.behind h.kind_at h.number_at ∙ ap (λ k. with_head kinds (length bytes) k h.number h.behind) four))
    (by_length kinds (nat_lt (length h.behind) h.number) _ (take h.number h.behind) (drop h.number h.behind))

known_front : (kinds : FrameKinds) (bytes : List ℕ) → SettingsFront (frame_by kinds bytes) → known_by kinds bytes ≡ bytes
known_front kinds bytes (Waits least is) = known-other kinds bytes (subst IsKnown (sym is) tt)
known_front kinds bytes (Came pairs rest is) = known-other kinds bytes (subst IsKnown (sym is) tt)
known_front kinds bytes (Bad e is) = known-other kinds bytes (subst IsKnown (sym is) tt)

waiting : (kinds : FrameKinds) (limit : ℕ) (side : Side) (p : Peer) (least : ℕ) → known_by kinds p.unread ≡ p.unread → frame_by kinds p.unread ≡ Unfinished least → is_excessive_by kinds limit p.unread ≡ false → read_peer kinds limit side p ≡ (p, None)
waiting kinds limit side p least same waits small =
    step_within kinds limit side p (ap (is_excessive_by kinds limit) same ∙ small) ∙ ap (λ l. at_front (read_peer kinds limit side) side p l (frame_by kinds l)) same ∙ ap (at_front (read_peer kinds limit side) side p p.unread) waits

reads_settings : (kinds : FrameKinds) (limit : ℕ) (side : Side) (p : Peer) (pairs : List (ℕ × ℕ)) (rest : List ℕ) → p.settings ≡ None → known_by kinds p.unread ≡ p.unread → frame_by kinds p.unread ≡ Whole (frame.Settings pairs) rest
    → is_excessive_by kinds limit p.unread ≡ false → (read_peer kinds limit side p).0.settings ≡ Some pairs
reads_settings kinds limit side p pairs rest none same whole small =
    let told : Peer = record p { unread = rest; settings = Some pairs; others = with_told p.others p.unread } in
    let there : read_peer kinds limit side p ≡ read_peer kinds limit side told =
    step_within kinds limit side p (ap (is_excessive_by kinds limit) same ∙ small) ∙ ap (λ l. at_front (read_peer kinds limit side) side p l (frame_by kinds l)) same ∙ ap (at_front (read_peer kinds limit side) side p p.unread) whole
    ∙ ap (λ o. unless_fault (read_frame side (record p { unread = rest; others = with_others o (frame.Settings pairs) p.others p.unread }) o (frame.Settings pairs)) (read_peer kinds limit side)) none in
    ap (λ (x : PeerFound). x.0.settings) there ∙ settings_stay kinds limit side told pairs refl

refused : (kinds : FrameKinds) (limit : ℕ) (side : Side) (p : Peer) (e : FrameError) → known_by kinds p.unread ≡ p.unread → frame_by kinds p.unread ≡ Refused e → is_excessive_by kinds limit p.unread ≡ false
    → read_peer kinds limit side p ≡ (p, Some (refused_code p.settings e))
refused kinds limit side p e same is small =
    step_within kinds limit side p (ap (is_excessive_by kinds limit) same ∙ small) ∙ ap (λ l. at_front (read_peer kinds limit side) side p l (frame_by kinds l)) same ∙ ap (at_front (read_peer kinds limit side) side p p.unread) is

pub what_first : (kinds : FrameKinds) (limit : ℕ) (side : Side) (p : Peer) → p.settings ≡ None → begins_other p.unread ≡ false → FirstRead kinds limit side p
what_first kinds limit side p none first = elim (cases_head kinds p.unread) [
  | inl h ↦ Nothing (waiting kinds limit side p h.least (known-other kinds p.unread (subst IsKnown (sym h.waits) tt)) h.waits (h.small limit))
  | inr h ↦ by_length_said h (settings_front kinds p.unread h first) (is_excessive_by kinds limit p.unread) refl
]
  where
    by_length_said : HasHead p.unread → SettingsFront (frame_by kinds p.unread) → (large : Bool) → is_excessive_by kinds limit p.unread ≡ large → FirstRead kinds limit side p
    by_length_said h x true large =
        let is = step_excessive kinds limit side p (ap (is_excessive_by kinds limit) (known_front kinds p.unread x) ∙ large) in
        Fails h _ (ap (λ (y : PeerFound). y.1) is) (ap (λ (y : PeerFound). y.0.settings) is ∙ none)
    by_length_said h (Waits least is) false small = Nothing (waiting kinds limit side p least (known_front kinds p.unread (Waits least is)) is small)
    by_length_said h (Came pairs rest is) false small = Settings h pairs (reads_settings kinds limit side p pairs rest none (known_front kinds p.unread (Came pairs rest is)) is small)
    by_length_said h (Bad e is) false small =
        let found = refused kinds limit side p e (known_front kinds p.unread (Bad e is)) is small in
        Fails h _ (ap (λ (y : PeerFound). y.1) found) (ap (λ (y : PeerFound). y.0.settings) found ∙ none)

-- Where no settings came from what did not begin with another frame, the same stands there still.
pub first_still : (kinds : FrameKinds) (limit : ℕ) (side : Side) (p q : Peer) → p.settings ≡ None → begins_other p.unread ≡ false → read_peer kinds limit side p ≡ (q, None) → q.settings ≡ None → q ≡ p
first_still kinds limit side p q none first read unknown = by_first (what_first kinds limit side p none first)
  where
    by_first : FirstRead kinds limit side p → q ≡ p
    by_first (Nothing is) = ap (λ (x : PeerFound). x.0) (sym read ∙ is)
    by_first (Settings h pairs came) = let wrong : Some pairs ≡ None = sym came ∙ ap (λ (x : PeerFound). x.0.settings) read ∙ unknown in absurd (cc)
    by_first (Fails h code fault lacks) = let wrong : Some code ≡ None = sym fault ∙ ap (λ (x : PeerFound). x.1) read in absurd (cc)
