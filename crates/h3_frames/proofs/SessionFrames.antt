-- Frames of types that are known to some choices of kinds, and to others are not.
use Rattle.std.proofs.Common.{◌≡◌, ℕ, ◌⊎◌, not, ◌&&◌, ◌+◌, ◌-◌, ◌<◌, Bool, true, false, ◌||◌, ◌==◌, List, length, nat_lt, arith, refl, sym, subst, ◌∙◌, ap, inl, inr, Some, None}
use Rattle.std.proofs.lemmas.Bool.{and_cases, and_parts, cases_lt, eqb-true}
use Rattle.h3_coding.specs.Varint.{varint_at}
use Rattle.h3_coding.specs.VarintLaws.{cases_number}
use Rattle.h3_proto.specs.Config.{is_limit}
use Rattle.h3_frames.specs.declared.frame.kinds.FrameKinds.{FrameKinds}
use Rattle.h3_frames.specs.ExcessiveFrames.{SaysLength, begins_section, head_said, is_excessive_by, is_kept_whole, is_of_type, length_said, number_said}
use Rattle.h3_frames.specs.ExcessiveLaws.{said_of, stays_handed, stays_update}
use Rattle.h3_frames.specs.FrameLaws.{at_no_kind, at_no_number, at_head, no_update}
use Rattle.h3_frames.specs.Frames.{frame_by, is_session, is_update, plain_frames, with_head}
use Rattle.h3_frames.specs.Known.{known_by}
use Rattle.h3_frames.specs.UnknownSize.{IsKnownTo, IsPassing, Sparing, choices_for, is_known_type, let_go_by, no_kinds, suits, unknown_size}
use Rattle.h3_frames.specs.Update.{is_update_type}
use Rattle.std.specs.List.{concat}
use Rattle.h3_frames.proofs.LettingGo.{IsUnknownHead, known_kind, size_of_head, tests, unknown_head}
use Rattle.h3_frames.proofs.SparedExcess.{none_begins, none_kept, none_under_way}
use Rattle.h3_frames.proofs.SuitingKinds.{apart, unknown_suits}

-- Where a frame was let go that these know,
pub record IsNowKnown (s : Sparing) (kinds : FrameKinds) : Type 0 where
  pub some : 0 < s.passing
  pub head : IsUnknownHead (let_go_by s.known_to) (concat s.pieces) s.passing
  pub choices : s.known_to ≡ choices_for head.kind
  pub stays : known_by kinds (concat s.pieces) ≡ concat s.pieces
  pub known : is_known_type kinds head.kind ≡ true

pub now_known : (s : Sparing) (kinds : FrameKinds) → IsPassing s → suits s.known_to kinds ≡ false → IsNowKnown s kinds
now_known s kinds is other = record {
  some = some;
  head = head;
  choices = choices;
  stays = elim whose [
    | inl session ↦ stays_handed kinds head.kind head.number (concat s.pieces) head.mid head.behind (handed (head.kind == 0) (is_session kinds head.kind) session) head.kind_at head.number_at
    | inr update ↦ stays_update kinds head.kind head.number (concat s.pieces) head.mid head.behind update head.kind_at head.number_at
  ];
  known = elim whose [
    | inl session ↦ rw session refl
    | inr update ↦ second (is_session kinds head.kind) (is_update kinds head.kind) _ update
  ];
}
  where
    none_suit : s.known_to ≡ no_kinds → ⊥
    none_suit e = apart (subst (λ (k : FrameKinds). suits k kinds ≡ false) e other)

    some : 0 < s.passing
    some = elim (cases_lt 0 s.passing) [
      | inl more ↦ more
      | inr few ↦ absurd (none_suit (is.plain (omega (arith, few))))
    ]

    head : IsUnknownHead (let_go_by s.known_to) (concat s.pieces) s.passing
    head = unknown_head (let_go_by s.known_to) (concat s.pieces) s.passing (is.unknown some)

    choices : s.known_to ≡ choices_for head.kind
    choices = subst (IsKnownTo s.known_to) head.kind_at (is.known some)

    denied : (a : Bool) → not a ≡ false → a ≡ true
    denied true e = refl
    denied false e = absurd (apart e)

    turned : (a b : Bool) → (a && b) ≡ true → (b && a) ≡ true
    turned true true e = refl
    turned true false e = e
    turned false b e = absurd (apart (sym e))

    handed : (a b : Bool) → b ≡ true → (a || b) ≡ true
    handed true b e = refl
    handed false b e = e

    second : (a b c : Bool) → b ≡ true → (a || (b || c)) ≡ true
    second true b c e = refl
    second false b c e = ap (λ x. x || c) e

    whose : (is_session kinds head.kind ≡ true) ⊎ (is_update kinds head.kind ≡ true)
    whose =
        let there : suits (choices_for head.kind) kinds ≡ false = subst (λ (k : FrameKinds). suits k kinds ≡ false) choices other in
        elim (and_cases (not ((head.kind == 0x41) && kinds.sessions)) (not (is_update_type head.kind && kinds.updates)) there) [
          | inl a ↦ inl (denied ((head.kind == 0x41) && kinds.sessions) a)
          | inr b ↦ inr (turned (is_update_type head.kind) kinds.updates (denied (is_update_type head.kind && kinds.updates) b))
        ]

-- that is no field section, and no unknown frame; whether it is too long its length says, if it is an update
pub record BeginsKnown (kinds : FrameKinds) (bytes : List ℕ) : Type 0 where
  pub begins : begins_section (known_by kinds bytes) ≡ false
  pub none : unknown_size kinds bytes ≡ None

pub unsuited : (s : Sparing) (kinds : FrameKinds) → IsPassing s → suits s.known_to kinds ≡ false → BeginsKnown kinds (concat s.pieces)
unsuited s kinds is other =
    let n = now_known s kinds is other in
    let t = tests (let_go_by s.known_to) n.head.kind n.head.unknown in
    record {
      begins = ap begins_section n.stays ∙ ap (is_of_type 1) n.head.kind_at ∙ t.headers;
      none = known_kind kinds n.head.kind (concat s.pieces) n.head.mid n.head.kind_at n.known;
    }

pub unsuited_long : (most number : ℕ) (s : Sparing) (kinds : FrameKinds) → is_limit most ≡ true → IsPassing s → SaysLength s.passing number (concat s.pieces) → suits s.known_to kinds ≡ false
    → ((s.known_to.updates && kinds.updates) && nat_lt most number) ≡ is_excessive_by kinds most (known_by kinds (concat s.pieces))
unsuited_long most number s kinds limit is says other =
    let n = now_known s kinds is other in
    let kind = n.head.kind in
    let none = none_kept (let_go_by s.known_to) kind n.head.unknown in
    let said : head_said (varint_at (concat s.pieces)) ≡ Some (kind, n.head.number) = ap head_said n.head.kind_at ∙ ap (λ o. Some (kind, length_said o)) n.head.number_at in
    let same : n.head.number ≡ number = sym (ap number_said said) ∙ says n.some in
    let all = said_of kinds most kind n.head.number (concat s.pieces) n.head.mid n.head.behind n.head.kind_at n.head.number_at in
    let here : (is_limit most && ((is_kept_whole kind || is_update kinds kind) && nat_lt most n.head.number)) ≡ ((s.known_to.updates && kinds.updates) && nat_lt most number) =
    ap (λ b. b && ((is_kept_whole kind || is_update kinds kind) && nat_lt most n.head.number)) limit
    ∙ ap (λ b. (b || is_update kinds kind) && nat_lt most n.head.number) none
    ∙ ap (λ b. b && nat_lt most n.head.number) (turned kinds.updates (is_update_type kind))
    ∙ ap (λ (k : FrameKinds). (k.updates && kinds.updates) && nat_lt most n.head.number) (sym n.choices)
    ∙ ap (λ m. (s.known_to.updates && kinds.updates) && nat_lt most m) same in
    sym (ap (is_excessive_by kinds most) n.stays ∙ all ∙ here)
  where
    turned : (a b : Bool) → (a && b) ≡ (b && a)
    turned true true = refl
    turned true false = refl
    turned false true = refl
    turned false false = refl

-- While it is under way nothing is told of what stands behind it.
pub under_way_tells : (most : ℕ) (s : Sparing) (kinds : FrameKinds) → IsPassing s → suits s.known_to kinds ≡ true → length (concat s.pieces) < s.passing → is_excessive_by kinds most (known_by kinds (concat s.pieces)) ≡ false
under_way_tells most s kinds is fits few =
    none_under_way kinds most (concat s.pieces) s.passing (unknown_suits s.known_to kinds (concat s.pieces) s.passing fits (is.unknown (omega (arith, few)))) few

pub under_way_begins : (s : Sparing) (kinds : FrameKinds) → IsPassing s → length (concat s.pieces) < s.passing → begins_section (known_by kinds (concat s.pieces)) ≡ false
under_way_begins s kinds is few = by_test (suits s.known_to kinds) refl
  where
    by_test : (b : Bool) → suits s.known_to kinds ≡ b → begins_section (known_by kinds (concat s.pieces)) ≡ false
    by_test true e = none_begins kinds (concat s.pieces) s.passing (unknown_suits s.known_to kinds (concat s.pieces) s.passing e (is.unknown (omega (arith, few)))) few
    by_test false e = (unsuited s kinds is e).begins

-- **Where the front is no unknown frame whose head is whole, it is read as by the plain kinds, updates apart.**
abbrev apart_from_updates : FrameKinds → FrameKinds
apart_from_updates kinds = record kinds { updates = false }

session_or_not : (kinds : FrameKinds) (size kind number : ℕ) (behind : List ℕ) → (is_session plain_frames kind ≡ true → is_session kinds kind ≡ true) → with_head (apart_from_updates kinds) size kind number behind ≡ with_head plain_frames size kind number behind
session_or_not kinds size kind number behind same = by_test (is_session plain_frames kind) refl
  where
    less : (a b : Bool) → (a && true) ≡ false → (a && b) ≡ false
    less true b e = absurd (apart e)
    less false b e = refl

    by_test : (b : Bool) → is_session plain_frames kind ≡ b → with_head (apart_from_updates kinds) size kind number behind ≡ with_head plain_frames size kind number behind
    by_test true e = rw (same e, e) refl
    by_test false e = rw (less (kind == 0x41) kinds.sessions e, e) refl

pub plain_by : (kinds : FrameKinds) (bytes : List ℕ) → unknown_size kinds bytes ≡ None → frame_by (record kinds { updates = false }) bytes ≡ frame_by plain_frames bytes
plain_by kinds bytes nothing = elim (cases_number bytes) [
  | inl none ↦ at_no_kind (apart_from_updates kinds) bytes none ∙ sym (at_no_kind plain_frames bytes none)
  | inr (kind, mid, at) ↦ by_number kind mid at (cases_number mid)
]
  where
    session : (kind number : ℕ) (mid behind : List ℕ) → varint_at bytes ≡ Some (kind, mid) → varint_at mid ≡ Some (number, behind) → is_session plain_frames kind ≡ true → is_session kinds kind ≡ true
    session kind number mid behind at next is = by_test (is_session kinds kind) refl
      where
        by_test : (b : Bool) → is_session kinds kind ≡ b → b ≡ true
        by_test true e = refl
        by_test false e =
            let kind_is : kind ≡ 0x41 = eqb-true kind 0x41 (and_parts (kind == 0x41) true is).0 in
            let unknown : is_known_type kinds kind ≡ false = subst (λ n. is_session kinds n ≡ false → is_known_type kinds n ≡ false) (sym kind_is) (λ e. rw (e, no_update kinds 0x41 refl) refl) e in
            let there : unknown_size kinds bytes ≡ Some (length bytes - length behind + number) = size_of_head kinds bytes (length bytes - length behind + number) (record {
              kind = kind;
              number = number;
              mid = mid;
              behind = behind;
              kind_at = at;
              number_at = next;
              unknown = unknown;
              size_is = refl;
            }) in
            let wrong : None ≡ Some (length bytes - length behind + number) = sym nothing ∙ there in
            absurd (cc)

    by_number : (kind : ℕ) (mid : List ℕ) → varint_at bytes ≡ Some (kind, mid) → (varint_at mid ≡ None) ⊎ ((v : ℕ) × (left : List ℕ) × (varint_at mid ≡ Some (v, left)))
        → frame_by (apart_from_updates kinds) bytes ≡ frame_by plain_frames bytes
    by_number kind mid at (inl none) = at_no_number (apart_from_updates kinds) kind bytes mid at none ∙ sym (at_no_number plain_frames kind bytes mid at none)
    by_number kind mid at (inr (number, behind, next)) =
        at_head (apart_from_updates kinds) kind number bytes mid behind at next
        ∙ session_or_not kinds (length bytes) kind number behind (session kind number mid behind at next)
        ∙ sym (at_head plain_frames kind number bytes mid behind at next)

pub sessions_by : (kinds : FrameKinds) (bytes : List ℕ) → kinds.sessions ≡ true → frame_by (record kinds { updates = false }) bytes ≡ frame_by plain_frames bytes
sessions_by kinds bytes e = ap (λ b. frame_by (record { sessions = b; updates = false }) bytes) e
