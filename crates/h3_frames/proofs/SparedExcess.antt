-- A limit on frames, where the frame at the front is an unknown one of which bytes were let go.
use Rattle.std.proofs.Common.{◌≡◌, ℕ, ◌<◌, ◌≤◌, ◌+◌, ◌-◌, Bool, true, false, ◌||◌, ◌==◌, List, [], ◌∷◌, ◌++◌, length, drop, arith, inl, inr, refl, sym, ap, ◌∙◌, Some}
use Rattle.std.proofs.lemmas.Bool.{cases_lt}
use Rattle.std.specs.List.{concat}
use Rattle.std.proofs.lemmas.List.Folds.{concat-append}
use Rattle.std.proofs.Math.Seq.{drop-append-add}
use Rattle.h3_coding.specs.VarintLaws.{none_at_end}
use Rattle.h3_frames.specs.ExcessiveFrames.{begins_section, is_excessive_by, is_kept_whole}
use Rattle.h3_frames.specs.ExcessiveLaws.{no_kind, none_left, unknown_begins, unknown_says}
use Rattle.h3_frames.specs.Frames.{is_session}
use Rattle.h3_frames.specs.Known.{known_by}
use Rattle.h3_frames.specs.KnownLaws.{known-unknown}
use Rattle.h3_frames.specs.UnknownSize.{AreLetGo, is_known_type, suits, unknown_size}
use Rattle.h3_frames.proofs.SparedPieces.{none_in_front, size_with_more}
use Rattle.h3_frames.proofs.SuitingKinds.{unknown_suits}
use Rattle.h3_frames.proofs.LettingGo.{inside, tests, unknown_head, unknown_whole}
use Rattle.h3_frames.specs.declared.frame.kinds.FrameKinds.{FrameKinds}

-- With nothing there, nothing is too long.
pub nothing_is_long : (kinds : FrameKinds) (most : ℕ) (bytes : List ℕ) → length bytes ≡ 0 → false ≡ is_excessive_by kinds most (known_by kinds bytes)
nothing_is_long kinds most [] e = sym (no_kind kinds most [] none_at_end)
nothing_is_long kinds most (byte ∷ bytes) e = absurd (omega (arith, e))

pub none_kept : (kinds : FrameKinds) (kind : ℕ) → is_known_type kinds kind ≡ false → is_kept_whole kind ≡ false
none_kept kinds kind unknown = by_test (is_kept_whole kind) refl
  where
    by_test : (b : Bool) → is_kept_whole kind ≡ b → b ≡ false
    by_test false e = refl
    by_test true e =
        let t = tests kinds kind unknown in
        absurd (none_left kind e t.headers t.cancel t.settings t.promise t.goaway t.most t.http2)

pub none_handed : (kinds : FrameKinds) (kind : ℕ) → is_known_type kinds kind ≡ false → ((kind == 0) || is_session kinds kind) ≡ false
none_handed kinds kind unknown = let t = tests kinds kind unknown in rw (t.plain, t.session) refl

-- While it is under way no frame is told as too long.
pub none_under_way : (kinds : FrameKinds) (most : ℕ) (bytes : List ℕ) (size : ℕ) → unknown_size kinds bytes ≡ Some size → length bytes < size → is_excessive_by kinds most (known_by kinds bytes) ≡ false
none_under_way kinds most bytes size is few =
    let h = unknown_head kinds bytes size is in
    let short : length h.behind < h.number = omega (arith, h.size_is, few, inside _ bytes size h) in
    unknown_says kinds most h.kind h.number bytes h.mid h.behind (none_kept kinds h.kind h.unknown) (none_handed kinds h.kind h.unknown) (tests kinds h.kind h.unknown).update h.kind_at h.number_at short

pub none_begins : (kinds : FrameKinds) (bytes : List ℕ) (size : ℕ) → unknown_size kinds bytes ≡ Some size → length bytes < size → begins_section (known_by kinds bytes) ≡ false
none_begins kinds bytes size is few =
    let h = unknown_head kinds bytes size is in
    let short : length h.behind < h.number = omega (arith, h.size_is, few, inside _ bytes size h) in
    unknown_begins kinds h.kind h.number bytes h.mid h.behind (none_kept kinds h.kind h.unknown) (none_handed kinds h.kind h.unknown) (tests kinds h.kind h.unknown).update h.kind_at h.number_at short

-- Once it is whole, what stands behind it tells.
known_behind : (kinds : FrameKinds) (bytes : List ℕ) (size : ℕ) → unknown_size kinds bytes ≡ Some size → size ≤ length bytes → known_by kinds bytes ≡ known_by kinds (drop size bytes)
known_behind kinds bytes size is all = let w = unknown_whole kinds bytes size is all in known-unknown kinds w.0 bytes (drop size bytes) w.1

-- what is kept behind the frame is what is behind it of all
behind_both : (front kept : List (List ℕ)) (size gone : ℕ) → gone ≡ length (concat front) → gone < size → drop (size - gone) (concat kept) ≡ drop size (concat (front ++ kept))
behind_both front kept size gone is less =
    let sum : size ≡ length (concat front) + (size - gone) = omega (arith, is, less) in
    sym (ap (drop size) (concat-append front kept) ∙ ap (λ n. drop n (concat front ++ concat kept)) sum ∙ drop-append-add (concat front) (concat kept) (size - gone))

-- So the first frame that is not unknown is found behind what was let go, also where that is nothing.
pub left_behind : (kinds : FrameKinds) (known_to : FrameKinds) (front kept : List (List ℕ)) (size gone : ℕ) → suits known_to kinds ≡ true → AreLetGo known_to size gone front → size ≤ length (concat (front ++ kept)) → known_by kinds (drop (size - gone) (concat kept)) ≡ known_by kinds (concat (front ++ kept))
left_behind kinds known_to front kept size gone fits h all = elim (cases_lt 0 size) [
  | inl some ↦
      ap (known_by kinds) (behind_both front kept size gone h.gone_is (h.under_way some)) ∙ sym (known_behind kinds (concat (front ++ kept)) size (unknown_suits known_to kinds (concat (front ++ kept)) size fits (size_with_more _ front kept size (h.unknown some))) all)
  | inr few ↦
      let zero : size ≡ 0 = omega (arith, few) in
      let none : size - gone ≡ 0 = omega (arith, zero) in
      ap (λ n. known_by kinds (drop n (concat kept))) none ∙ ap (known_by kinds) (none_in_front known_to size gone front kept h zero)
]
