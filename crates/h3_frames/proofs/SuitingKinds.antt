-- What is known of bytes by one choice of kinds, and by another.
use Rattle.std.proofs.Common.{◌≡◌, ℕ, ◌+◌, ◌-◌, ◌<◌, Bool, true, false, not, ◌&&◌, ◌==◌, List, ◌++◌, length, take, drop, refl, sym, subst, ◌∙◌, ap, inl, inr, ◌⊎◌, Option, Some, None, Result, Ok, Err}
use Rattle.std.specs.Prelude.{IfOk, IfSome, IsNone, OnErr}
use Rattle.std.specs.List.{concat}
use Rattle.std.proofs.lemmas.Bool.{and_parts, cases_lt, eqb-true, lt-ltb}
use Rattle.h3_coding.specs.Varint.{varint_at}
use Rattle.h3_coding.specs.VarintLaws.{cases_number, reads_more}
use Rattle.h3_frames.specs.declared.frame.kinds.FrameKinds.{FrameKinds}
use Rattle.h3_frames.specs.FrameLaws.{at_no_kind, at_no_number, at_head, frame_known-finished, no_update, short_or_whole}
use Rattle.h3_frames.specs.Frames.{Unfinished, frame_by, is_session, is_update, plain_frames}
use Rattle.h3_frames.specs.Fronts.{IsFinished, tested}
use Rattle.h3_frames.specs.Update.{is_update_type}
use Rattle.h3_frames.specs.Known.{Gives, IsWaiting}
use Rattle.h3_frames.specs.UnreadFrames.{gives_none}
use Rattle.h3_frames.specs.declared.frame.errors.FrameStreamError.{FrameStreamError}
use Rattle.h3_frames.specs.Tries.{Awaits, Decoding, Expects}
use Rattle.h3_frames.specs.UnknownSize.{IsKnownTo, IsPassing, Sparing, choices_for, is_known_type, is_longer, is_under_way, let_go_by, suits, unknown_size}
use Rattle.h3_frames.specs.declared.proto.frame.PayloadLen.{PayloadLen}
use Rattle.h3_frames.specs.declared.proto.frame.Frame.{Frame}
use Rattle.h3_frames.proofs.LettingGo.{known_kind, size_of_head, tests, unknown_head, unknown_whole}

abbrev holds : Bool → Type 0
holds true = Unit {0}
holds false = ⊥

pub apart : true ≡ false → ⊥
apart e = subst holds e tt

-- Whoever knows these kinds knows those.
pub record Within (kinds most : FrameKinds) : Type 0 where
  pub sessions : kinds.sessions ≡ true → most.sessions ≡ true
  pub updates : kinds.updates ≡ true → most.updates ≡ true

-- What suits is within the most kinds by which that frame is unknown.
pub suits_within : (known_to kinds : FrameKinds) → suits known_to kinds ≡ true → Within kinds (let_go_by known_to)
suits_within known_to kinds fits =
    let parts = and_parts (not (known_to.sessions && kinds.sessions)) (not (known_to.updates && kinds.updates)) fits in
    record { sessions = by_test known_to.sessions kinds.sessions parts.0; updates = by_test known_to.updates kinds.updates parts.1 }
  where
    by_test : (a b : Bool) → not (a && b) ≡ true → b ≡ true → not a ≡ true
    by_test false b e h = refl
    by_test true b e h = absurd (apart (sym e ∙ ap not h))

-- So a type without a meaning by those has none by these.
less_known : (a b c : Bool) → (b ≡ true → c ≡ true) → (a && c) ≡ false → (a && b) ≡ false
less_known false b c h e = refl
less_known true false c h e = refl
less_known true true c h e = absurd (apart (sym (h refl) ∙ e))

fewer_updates : (a b c : Bool) → (b ≡ true → c ≡ true) → (c && a) ≡ false → (b && a) ≡ false
fewer_updates a false c h e = refl
fewer_updates a true c h e = ap (λ x. x && a) (sym (h refl)) ∙ e

no_meaning : (kinds most : FrameKinds) (kind : ℕ) → Within kinds most → is_known_type most kind ≡ false → is_known_type kinds kind ≡ false
no_meaning kinds most kind within none =
    let t = tests most kind none in
    let session : is_session kinds kind ≡ false = less_known (kind == 0x41) kinds.sessions most.sessions within.sessions t.session in
    let update : is_update kinds kind ≡ false = fewer_updates (is_update_type kind) kinds.updates most.updates within.updates t.update in
    rw (session, update, t.plain, t.headers, t.cancel, t.settings, t.promise, t.goaway, t.most) t.http2

pub unknown_within : (kinds most : FrameKinds) (bytes : List ℕ) (size : ℕ) → Within kinds most → unknown_size most bytes ≡ Some size → unknown_size kinds bytes ≡ Some size
unknown_within kinds most bytes size within is =
    let h = unknown_head most bytes size is in
    size_of_head kinds bytes size (record {
      kind = h.kind;
      number = h.number;
      mid = h.mid;
      behind = h.behind;
      kind_at = h.kind_at;
      number_at = h.number_at;
      unknown = no_meaning kinds most h.kind within h.unknown;
      size_is = h.size_is;
    })

pub unknown_suits : (known_to kinds : FrameKinds) (bytes : List ℕ) (size : ℕ) → suits known_to kinds ≡ true → unknown_size (let_go_by known_to) bytes ≡ Some size → unknown_size kinds bytes ≡ Some size
unknown_suits known_to kinds bytes size fits is = unknown_within kinds (let_go_by known_to) bytes size (suits_within known_to kinds fits) is

pub is_nothing : {X : Type 0} (o : Option X) → IsNone o → o ≡ None
is_nothing None e = refl
is_nothing (Some x) e = absurd (apart e)

-- A type is unknown to all but the choices for it, if it is to any.
no_choice : (a : Bool) → (a && not a) ≡ false
no_choice true = refl
no_choice false = refl

no_choice_first : (a : Bool) → (not a && a) ≡ false
no_choice_first true = refl
no_choice_first false = refl

chosen_unknown : (kinds : FrameKinds) (kind : ℕ) → is_known_type kinds kind ≡ false → is_known_type (let_go_by (choices_for kind)) kind ≡ false
chosen_unknown kinds kind none =
    let t = tests kinds kind none in
    let session : is_session (let_go_by (choices_for kind)) kind ≡ false = no_choice (kind == 0x41) in
    let update : is_update (let_go_by (choices_for kind)) kind ≡ false = no_choice_first (is_update_type kind) in
    rw (session, update, t.plain, t.headers, t.cancel, t.settings, t.promise, t.goaway, t.most) t.http2

pub let_go : (kinds known_to : FrameKinds) (bytes : List ℕ) (size : ℕ) → unknown_size kinds bytes ≡ Some size → IsKnownTo known_to (varint_at bytes) → unknown_size (let_go_by known_to) bytes ≡ Some size
let_go kinds known_to bytes size is known =
    let h = unknown_head kinds bytes size is in
    let choices : known_to ≡ choices_for h.kind = subst (IsKnownTo known_to) h.kind_at known in
    subst (λ (k : FrameKinds). unknown_size (let_go_by k) bytes ≡ Some size) (sym choices) (size_of_head (let_go_by (choices_for h.kind)) bytes size (record {
      kind = h.kind;
      number = h.number;
      mid = h.mid;
      behind = h.behind;
      kind_at = h.kind_at;
      number_at = h.number_at;
      unknown = chosen_unknown kinds h.kind h.unknown;
      size_is = h.size_is;
    }))

-- More bytes leave its type as it is.
pub known_more : (known_to : FrameKinds) (bytes more : List ℕ) → IsKnownTo known_to (varint_at bytes) → IsKnownTo known_to (varint_at (bytes ++ more))
known_more known_to bytes more known = elim (cases_number bytes) [
  | inl none ↦ absurd (subst (IsKnownTo known_to) none known)
  | inr (kind, mid, e) ↦
      let here : known_to ≡ choices_for kind = subst (IsKnownTo known_to) e known in
      subst (IsKnownTo known_to) (sym (reads_more kind bytes mid more e)) here
]

-- **Less than a frame is less than one by all who know no more sessions**, since a frame of any other type is waited for by all.
waits_by : (most kinds : FrameKinds) (a b : Bool) (size kind number least : ℕ) (behind : List ℕ) (c : Bool) → (c ≡ true → a ≡ true) → tested most a b size kind number behind ≡ Unfinished least → tested kinds c b size kind number behind ≡ Unfinished least
waits_by most kinds true b size kind number least behind c fewer e = absurd (cc)
waits_by most kinds false true size kind number least behind c fewer e = absurd (cc)
waits_by most kinds false false size kind number least behind true fewer e = absurd (apart (sym (fewer refl)))
waits_by most kinds false false size kind number least behind false fewer e = elim (short_or_whole number behind) [
  | inl t ↦ rw t.0 (rw t.0 at e)
  | inr t ↦ absurd (subst IsFinished (rw t.0 at e) (frame_known-finished most kind (take number behind) (drop number behind)).0)
]

front_if : (most kinds : FrameKinds) (bytes : List ℕ) (least : ℕ) → ((kind : ℕ) (mid : List ℕ) (number : ℕ) (behind : List ℕ) → varint_at bytes ≡ Some (kind, mid) → varint_at mid ≡ Some (number, behind) → is_session kinds kind ≡ true → is_session most kind ≡ true)
    → frame_by most bytes ≡ Unfinished least → frame_by kinds bytes ≡ Unfinished least
front_if most kinds bytes least fewer e = elim (cases_number bytes) [
  | inl none ↦ at_no_kind kinds bytes none ∙ sym (at_no_kind most bytes none) ∙ e
  | inr k ↦ elim (cases_number k.1) [
    | inl none ↦ at_no_number kinds k.0 bytes k.1 k.2 none ∙ sym (at_no_number most k.0 bytes k.1 k.2 none) ∙ e
    | inr n ↦
        let here = sym (at_head most k.0 n.0 bytes k.1 n.1 k.2 n.2) ∙ e in
        at_head kinds k.0 n.0 bytes k.1 n.1 k.2 n.2
        ∙ waits_by most kinds (is_session most k.0) (k.0 == 0) (length bytes) k.0 n.0 least n.1 (is_session kinds k.0) (fewer k.0 k.1 n.0 n.1 k.2 n.2) here
  ]
]

session_of : (a b c : Bool) → (b ≡ true → c ≡ true) → (a && b) ≡ true → (a && c) ≡ true
session_of true b c h e = h e
session_of false b c h e = e

front_within : (most kinds : FrameKinds) (bytes : List ℕ) (least : ℕ) → (kinds.sessions ≡ true → most.sessions ≡ true) → frame_by most bytes ≡ Unfinished least → frame_by kinds bytes ≡ Unfinished least
front_within most kinds bytes least fewer e =
    front_if most kinds bytes least (λ kind mid number behind at next is. session_of (kind == 0x41) kinds.sessions most.sessions fewer is) e

awaits_within : (most kinds : FrameKinds) (expected : Option ℕ) (tries : ℕ) (bytes : List ℕ) → (kinds.sessions ≡ true → most.sessions ≡ true) → Awaits most expected tries bytes → Awaits kinds expected tries bytes
awaits_within most kinds None tries bytes fewer h = tt
awaits_within most kinds (Some least) tries bytes fewer h = (h.0, h.1, h.2, front_within most kinds h.0 least fewer h.3, h.4)

-- So what is expected if sessions are known is expected whichever kinds are.
pub expects_within : (most kinds : FrameKinds) (d : Decoding) (bytes : List ℕ) → (kinds.sessions ≡ true → most.sessions ≡ true) → Expects most d bytes → Expects kinds d bytes
expects_within most kinds d bytes fewer h = awaits_within most kinds d.expected d.tries bytes fewer h

pub expects_as : (kinds : FrameKinds) (d : Decoding) (bytes : List ℕ) → Expects plain_frames d bytes → Expects kinds d bytes
expects_as kinds d bytes h = expects_within plain_frames kinds d bytes (λ e. refl) h

pub expects_suits : (known_to kinds : FrameKinds) (d : Decoding) (bytes : List ℕ) → suits known_to kinds ≡ true → Expects (let_go_by known_to) d bytes → Expects kinds d bytes
expects_suits known_to kinds d bytes fits h = expects_within (let_go_by known_to) kinds d bytes (suits_within known_to kinds fits).sessions h

-- And the other way round, if the bytes begin with no unknown frame by these, or with one by all.
more_front : (kinds most : FrameKinds) (front more : List ℕ) (least : ℕ) → (unknown_size kinds (front ++ more) ≡ None) ⊎ ((size : ℕ) × (unknown_size most (front ++ more) ≡ Some size)) → frame_by kinds front ≡ Unfinished least → frame_by most front ≡ Unfinished least
more_front kinds most front more least whole e = front_if kinds most front least session e
  where
    session : (kind : ℕ) (mid : List ℕ) (number : ℕ) (behind : List ℕ) → varint_at front ≡ Some (kind, mid) → varint_at mid ≡ Some (number, behind) → is_session most kind ≡ true → is_session kinds kind ≡ true
    session kind mid number behind at next is = by_test (is_session kinds kind) refl
      where
        there : is_session kinds kind ≡ false → unknown_size kinds (front ++ more) ≡ Some (length (front ++ more) - length (behind ++ more) + number)
        there none =
            let kind_is : kind ≡ 0x41 = eqb-true kind 0x41 (and_parts (kind == 0x41) most.sessions is).0 in
            let unknown : is_known_type kinds kind ≡ false = subst (λ n. is_session kinds n ≡ false → is_known_type kinds n ≡ false) (sym kind_is) (λ e. rw (e, no_update kinds 0x41 refl) refl) none in
            size_of_head kinds (front ++ more) (length (front ++ more) - length (behind ++ more) + number) (record {
              kind = kind;
              number = number;
              mid = mid ++ more;
              behind = behind ++ more;
              kind_at = reads_more kind front mid more at;
              number_at = reads_more number mid behind more next;
              unknown = unknown;
              size_is = refl;
            })

        by_whole : is_session kinds kind ≡ false → (unknown_size kinds (front ++ more) ≡ None) ⊎ ((size : ℕ) × (unknown_size most (front ++ more) ≡ Some size)) → false ≡ true
        by_whole none (inl nothing) =
            let wrong : None ≡ Some (length (front ++ more) - length (behind ++ more) + number) = sym nothing ∙ there none in
            absurd (cc)
        by_whole none (inr (size, some)) =
            let known : is_known_type most kind ≡ true = rw is refl in
            let wrong : None ≡ Some size = sym (known_kind most kind (front ++ more) (mid ++ more) (reads_more kind front mid more at) known) ∙ some in
            absurd (cc)

        by_test : (b : Bool) → is_session kinds kind ≡ b → b ≡ true
        by_test true e = refl
        by_test false e = by_whole e whole

expects_more : (kinds most : FrameKinds) (d : Decoding) (bytes : List ℕ) → (unknown_size kinds bytes ≡ None) ⊎ ((size : ℕ) × (unknown_size most bytes ≡ Some size)) → Expects kinds d bytes → Expects most d bytes
expects_more kinds most d bytes whole h = by_expected d.expected h
  where
    by_expected : (expected : Option ℕ) → Awaits kinds expected d.tries bytes → Awaits most expected d.tries bytes
    by_expected None a = tt
    by_expected (Some least) a =
        let here = subst (λ l. (unknown_size kinds l ≡ None) ⊎ ((size : ℕ) × (unknown_size most l ≡ Some size))) a.2 whole in
        (a.0, a.1, a.2, more_front kinds most a.0 a.1 least here a.3, a.4)

-- Less than a frame, and no unknown frame under way, is no unknown frame.
no_size : (kinds : FrameKinds) (bytes : List ℕ) → IsWaiting (frame_by kinds bytes) → is_under_way kinds bytes ≡ false → unknown_size kinds bytes ≡ None
no_size kinds bytes waits none = by_size (unknown_size kinds bytes) refl
  where
    by_size : (o : Option ℕ) → unknown_size kinds bytes ≡ o → o ≡ None
    by_size None e = refl
    by_size (Some size) e = elim (cases_lt (length bytes) size) [
      | inl few ↦
          let wrong : true ≡ false = sym (lt-ltb (length bytes) size few) ∙ ap (is_longer (length bytes)) (sym e) ∙ none in
          absurd (apart wrong)
      | inr all ↦ let w = unknown_whole kinds bytes size e all in absurd (subst IsWaiting w.1 waits)
    ]

-- **What a decoder expects once the unknown frame under way was let go, it expects by the kinds by which that was.**
pub spared_expects : (kinds : FrameKinds) (u : Sparing) (d : Decoding) → IsPassing u → Expects kinds d (concat u.pieces) → IsWaiting (frame_by kinds (concat u.pieces))
    → (is_under_way kinds (concat u.pieces) ≡ true → 0 < u.passing) → Expects (let_go_by u.known_to) d (concat u.pieces)
spared_expects kinds u d is h waits spared = expects_more kinds (let_go_by u.known_to) d (concat u.pieces) (by_way (is_under_way kinds (concat u.pieces)) refl) h
  where
    by_way : (b : Bool) → is_under_way kinds (concat u.pieces) ≡ b → (unknown_size kinds (concat u.pieces) ≡ None) ⊎ ((size : ℕ) × (unknown_size (let_go_by u.known_to) (concat u.pieces) ≡ Some size))
    by_way false e = inl (no_size kinds (concat u.pieces) waits e)
    by_way true e = inr (u.passing, is.unknown (spared e))

-- An answer without a frame leaves less than one.
pub waits_if : (kinds : FrameKinds) (r : Result (Option (Frame PayloadLen)) FrameStreamError) (old new : List ℕ) → gives_none r ≡ true → Gives kinds r old new → IsWaiting (frame_by kinds new)
waits_if kinds (Ok None) old new is g = g.1
waits_if kinds (Ok (Some f)) old new is g = absurd (apart (sym is))
waits_if kinds (Err e) old new is g = absurd (apart (sym is))

-- A frame leaves nothing expected, and an error what was expected whichever kinds are known.
pub given_expects : (known_to : FrameKinds) (r : Result (Option (Frame PayloadLen)) FrameStreamError) (d : Decoding) (bytes : List ℕ) → gives_none r ≡ false → IfOk r (λ o. IfSome o (λ f. d.expected ≡ None)) → OnErr r (Expects plain_frames d bytes) → Expects (let_go_by known_to) d bytes
given_expects known_to (Ok None) d bytes is fresh plain = absurd (apart is)
given_expects known_to (Ok (Some f)) d bytes is fresh plain = subst (λ o. Awaits (let_go_by known_to) o d.tries bytes) (sym fresh) tt
given_expects known_to (Err e) d bytes is fresh plain = expects_within plain_frames (let_go_by known_to) d bytes (λ h. refl) plain
