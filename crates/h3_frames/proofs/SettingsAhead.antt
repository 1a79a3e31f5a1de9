-- The settings that bytes begin with, behind unknown frames.
use Rattle.std.proofs.Common.{◌≡◌, ℕ, zero, suc, ◌<◌, ◌≤◌, ◌==◌, Bool, true, false, List, [], length, take, filter, nat_lt, if◌then◌else◌, arith, ap, sym, subst, ◌∙◌, refl, Option, Some, None}
use Rattle.std.proofs.lemmas.Bool.{le-ltb, lt-ltb}
use Rattle.std.specs.List.{concat}
use Rattle.h3_coding.specs.Varint.{varint_at}
use Rattle.h3_coding.specs.VarintLaws.{none_at_end}
use Rattle.h3_proto.specs.OtherSettings.{others_of, others_among}
use Rattle.h3_proto.specs.Pairs.{pair_at, pairs_in, with_value}
use Rattle.h3_proto.specs.PairLaws.{split_none}
use Rattle.h3_frames.specs.ExcessiveLaws.{stays_begun, stays_none, stays_unknown}
use Rattle.h3_frames.specs.Known.{known_by}
use Rattle.h3_frames.specs.OtherSettings.{others_at, payload_behind, payload_of_length, payload_of_settings}
use Rattle.h3_frames.specs.UnknownSize.{IsPassing, Sparing, let_go_by, suits, unknown_size}
use Rattle.h3_frames.specs.declared.frame.kinds.FrameKinds.{FrameKinds}
use Rattle.h3_frames.proofs.LettingGo.{inside, tests, unknown_head}
use Rattle.h3_frames.proofs.SessionFrames.{now_known}
use Rattle.h3_frames.proofs.SparedExcess.{none_handed, none_kept}
use Rattle.h3_frames.proofs.SuitingKinds.{unknown_suits}

-- of a frame that stays at the front, its type and what its length says tell
payload_at : (kinds : FrameKinds) (kind : ℕ) (bytes mid : List ℕ) (o : Option (ℕ × List ℕ)) → known_by kinds bytes ≡ bytes → varint_at bytes ≡ Some (kind, mid) → varint_at mid ≡ o
    → payload_of_settings (varint_at (known_by kinds bytes)) ≡ (if kind == 4 then payload_of_length o else [])
payload_at kinds kind bytes mid o stays e k =
    ap (λ l. payload_of_settings (varint_at l)) stays ∙ ap payload_of_settings e ∙ ap (λ x. if kind == 4 then payload_of_length x else []) k

-- no head is there
pub none_ahead : (kinds : FrameKinds) (bytes : List ℕ) → varint_at bytes ≡ None → payload_of_settings (varint_at (known_by kinds bytes)) ≡ []
none_ahead kinds bytes e = ap (λ l. payload_of_settings (varint_at l)) (stays_none kinds bytes e) ∙ ap payload_of_settings e

-- or no whole one
pub begun_ahead : (kinds : FrameKinds) (kind : ℕ) (bytes mid rest : List ℕ) → varint_at bytes ≡ Some (kind, mid) → varint_at mid ≡ None → payload_of_settings (varint_at (known_by kinds bytes)) ≡ payload_behind (Some (kind, 0)) rest
begun_ahead kinds kind bytes mid rest e k =
    payload_at kinds kind bytes mid None (stays_begun kinds kind bytes mid e k) e k
    ∙ ap (λ b. if kind == 4 then (if b then [] else take 0 rest) else []) (sym (le-ltb (length rest) 0 (omega arith)))

-- or it is whole, and of a frame that stays
pub whole_ahead : (kinds : FrameKinds) (kind number : ℕ) (bytes mid behind : List ℕ) → known_by kinds bytes ≡ bytes → varint_at bytes ≡ Some (kind, mid) → varint_at mid ≡ Some (number, behind)
    → payload_of_settings (varint_at (known_by kinds bytes)) ≡ payload_behind (Some (kind, number)) behind
whole_ahead kinds kind number bytes mid behind stays e k = payload_at kinds kind bytes mid (Some (number, behind)) stays e k

pub no_settings : (kind number : ℕ) (bytes : List ℕ) → (kind == 4) ≡ false → payload_behind (Some (kind, number)) bytes ≡ []
no_settings kind number bytes other = ap (λ b. if b then payload_of_length (Some (number, bytes)) else []) other

-- no bytes have no settings
none_among : (most : ℕ) → others_of most [] ≡ []
none_among most = ap (λ s. others_among most (pairs_in s)) (split_none [] (ap with_value none_at_end)) ∙ take_nothing most
  where
    take_nothing : (n : ℕ) → take {A = ℕ × ℕ} n [] ≡ []
    take_nothing zero = refl
    take_nothing (suc n) = refl

nothing_at : (most : ℕ) (bytes : List ℕ) → payload_of_settings (varint_at bytes) ≡ [] → others_at most bytes ≡ []
nothing_at most bytes e = ap (others_of most) e ∙ none_among most

-- **While an unknown frame is under way no settings are at the front,**
none_under_way : (kinds : FrameKinds) (most : ℕ) (bytes : List ℕ) (size : ℕ) → unknown_size kinds bytes ≡ Some size → length bytes < size → others_at most (known_by kinds bytes) ≡ []
none_under_way kinds most bytes size is few =
    let h = unknown_head kinds bytes size is in
    let t = tests kinds h.kind h.unknown in
    let short : length h.behind < h.number = omega (arith, h.size_is, few, inside _ bytes size h) in
    let stays = stays_unknown kinds h.kind h.number bytes h.mid h.behind (none_kept kinds h.kind h.unknown) (none_handed kinds h.kind h.unknown) t.update h.kind_at h.number_at short in
    nothing_at most (known_by kinds bytes) (whole_ahead kinds h.kind h.number bytes h.mid h.behind stays h.kind_at h.number_at ∙ no_settings h.kind h.number h.behind t.settings)

-- and none where it is known by now.
pub none_unsuited : (most : ℕ) (s : Sparing) (kinds : FrameKinds) → IsPassing s → suits s.known_to kinds ≡ false → others_at most (known_by kinds (concat s.pieces)) ≡ []
none_unsuited most s kinds is other =
    let n = now_known s kinds is other in
    let t = tests (let_go_by s.known_to) n.head.kind n.head.unknown in
    nothing_at most (known_by kinds (concat s.pieces))
    (whole_ahead kinds n.head.kind n.head.number (concat s.pieces) n.head.mid n.head.behind n.stays n.head.kind_at n.head.number_at ∙ no_settings n.head.kind n.head.number n.head.behind t.settings)

pub none_passing : (most : ℕ) (s : Sparing) (kinds : FrameKinds) → IsPassing s → length (concat s.pieces) < s.passing → others_at most (known_by kinds (concat s.pieces)) ≡ []
none_passing most s kinds is few = by_test (suits s.known_to kinds) refl
  where
    by_test : (b : Bool) → suits s.known_to kinds ≡ b → others_at most (known_by kinds (concat s.pieces)) ≡ []
    by_test true e = none_under_way kinds most (concat s.pieces) s.passing (unknown_suits s.known_to kinds (concat s.pieces) s.passing e (is.unknown (omega (arith, few)))) few
    by_test false e = none_unsuited most s kinds is e
