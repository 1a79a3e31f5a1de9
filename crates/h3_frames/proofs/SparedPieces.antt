-- Pieces in front of a buffer that were let go.
use Rattle.std.proofs.Common.{◌≡◌, true, false, ℕ, zero, suc, ◌+◌, ◌-◌, ◌<◌, ◌≤◌, List, [], ◌∷◌, ◌++◌, length, drop, arith, refl, sym, subst, ◌∙◌, ap, length-append, append-nil, if◌then◌else◌, OnOk, OnErr, Option, Some, None, Result, Ok, Err}
use Rattle.std.specs.List.{concat}
use Rattle.std.specs.Prelude.{MatchOption}
use Rattle.std.proofs.lemmas.Bool.{le-ltb}
use Rattle.std.proofs.lemmas.List.{length-drop}
use Rattle.std.proofs.lemmas.List.Folds.{concat-append}
use Rattle.h3_coding.specs.VarintLaws.{none_at_end, reads_more}
use Rattle.h3_coding.specs.Varint.{varint_at}
use Rattle.h3_frames.specs.declared.proto.frame.PayloadLen.{PayloadLen}
use Rattle.h3_frames.specs.declared.proto.frame.Frame.{Frame}
use Rattle.h3_frames.specs.declared.frame.errors.FrameStreamError.{FrameStreamError}
use Rattle.h3_frames.specs.declared.frame.errors.FrameStreamError.TheVariants as stream
use Rattle.h3_frames.proofs.FrameRows.{truth_apart}
use Rattle.h3_frames.specs.Frames.{Unknown, frame_by, plain_frames}
use Rattle.h3_frames.specs.Known.{known_by, Gives, IsWaiting}
use Rattle.h3_frames.specs.GivesLaws.{gives_fewer}
use Rattle.h3_frames.specs.KnownLaws.{known-other, known-unknown}
use Rattle.h3_frames.specs.Fronts.{IsKnown}
use Rattle.h3_frames.specs.PieceLaws.{concat-without, rest_is, rest_same, rest_then, ending_rest}
use Rattle.h3_frames.specs.Pieces.{without, with_piece, IsRest, ending}
use Rattle.h3_frames.specs.Tries.{Decoding, Counts, Expects, no_try, finds_less, passes, needed, counted}
use Rattle.h3_frames.proofs.Tries.{too_few, expects_next}
use Rattle.h3_frames.specs.UnknownSize.{unknown_size, size_by, Sparing, AreLetGo, IsKnownTo, IsPassing, IsSpared, choices_for, is_longer, is_under_way, let_go_by, no_kinds, suits}
use Rattle.h3_frames.specs.ExcessiveFrames.{SaysLength, head_said, length_said, number_said}
use Rattle.h3_frames.specs.UnreadFrames.{UnreadFrames, IsStillUnderWay, IsPassed}
use Rattle.h3_frames.proofs.LettingGo.{unknown_head, unknown_more, unknown_waits, unknown_whole, unknown_has_head}
use Rattle.h3_frames.proofs.SuitingKinds.{expects_within, known_more, let_go, unknown_suits}
use Rattle.h3_frames.specs.declared.frame.kinds.FrameKinds.{FrameKinds}

past_piece : (n : ℕ) (p : List ℕ) (pieces : List (List ℕ)) → 0 < n → length p ≤ n → without n (p ∷ pieces) ≡ without (n - length p) pieces
past_piece zero p pieces some h = absurd (omega (arith, some))
past_piece (suc n) p pieces some h = ap (λ b. if b then drop (suc n) p ∷ pieces else without (suc n - length p) pieces) (le-ltb (suc n) (length p) h)

-- what goes past the front is passed of the others
without_front : (front pieces : List (List ℕ)) (m : ℕ) → 0 < m → without (length (concat front) + m) (front ++ pieces) ≡ without m pieces
without_front [] pieces m some = ap (λ k. without k pieces) (omega arith)
without_front (p ∷ front) pieces m some =
    let size = length-append p (concat front) in
    past_piece (length (p ++ concat front) + m) p (front ++ pieces) (omega (arith, some)) (omega (arith, size))
    ∙ ap (λ k. without k (front ++ pieces)) (omega (arith, size)) ∙ without_front front pieces m some

pub size_of_both : (front pieces : List (List ℕ)) → length (concat (front ++ pieces)) ≡ length (concat front) + length (concat pieces)
size_of_both front pieces = ap length (concat-append front pieces) ∙ length-append (concat front) (concat pieces)

-- so many bytes of all are passed, where the front is shorter
pub passed_rest : (front pieces new : List (List ℕ)) (size gone : ℕ) → gone ≡ length (concat front) → gone < size → size ≤ length (concat (front ++ pieces)) → new ≡ without (size - gone) pieces → IsRest (front ++ pieces) new
passed_rest front pieces new size gone is less all e =
    let sum : length (concat front) + (size - gone) ≡ size = omega (arith, is, less) in
    (size, all, e ∙ sym (without_front front pieces (size - gone) (omega (arith, less))) ∙ ap (λ k. without k (front ++ pieces)) sum)

pub passed_bytes : (front pieces new : List (List ℕ)) (size gone : ℕ) → gone ≡ length (concat front) → gone < size → size ≤ length (concat (front ++ pieces)) → new ≡ without (size - gone) pieces → concat new ≡ drop size (concat (front ++ pieces))
passed_bytes front pieces new size gone is less all e =
    let sum : length (concat front) + (size - gone) ≡ size = omega (arith, is, less) in
    ap concat (e ∙ sym (without_front front pieces (size - gone) (omega (arith, less))) ∙ ap (λ k. without k (front ++ pieces)) sum) ∙ concat-without size (front ++ pieces)

-- a frame that is under way has its size, whatever is behind it
pub size_with_more : (kinds : FrameKinds) (front pieces : List (List ℕ)) (size : ℕ) → unknown_size kinds (concat front) ≡ Some size → unknown_size kinds (concat (front ++ pieces)) ≡ Some size
size_with_more kinds front pieces size is = ap (unknown_size kinds) (concat-append front pieces) ∙ unknown_more kinds (concat front) (concat pieces) size is

-- and its head says the same
pub says_with_more : (kinds : FrameKinds) (front pieces : List (List ℕ)) (passing number : ℕ) → (0 < passing → unknown_size kinds (concat front) ≡ Some passing) → SaysLength passing number (concat front) → SaysLength passing number (concat (front ++ pieces))
says_with_more kinds front pieces passing number is says some =
    let h = unknown_head kinds (concat front) passing (is some) in
    let here : head_said (varint_at (concat front)) ≡ Some (h.kind, h.number) = said_there h.kind h.number (concat front) h.mid h.behind h.kind_at h.number_at in
    let there : head_said (varint_at (concat front ++ concat pieces)) ≡ Some (h.kind, h.number) =
    said_there h.kind h.number (concat front ++ concat pieces) (h.mid ++ concat pieces) (h.behind ++ concat pieces) (reads_more h.kind (concat front) h.mid (concat pieces) h.kind_at) (reads_more h.number h.mid h.behind (concat pieces) h.number_at) in
    ap (λ l. number_said (head_said (varint_at l))) (concat-append front pieces) ∙ ap number_said (there ∙ sym here) ∙ says some
  where
    said_there : (kind number : ℕ) (bytes mid behind : List ℕ) → varint_at bytes ≡ Some (kind, mid) → varint_at mid ≡ Some (number, behind) → head_said (varint_at bytes) ≡ Some (kind, number)
    said_there kind number bytes mid behind e k = ap head_said e ∙ ap (λ o. Some (kind, length_said o)) k

known_with_more : (known_to : FrameKinds) (front pieces : List (List ℕ)) → IsKnownTo known_to (varint_at (concat front)) → IsKnownTo known_to (varint_at (concat (front ++ pieces)))
known_with_more known_to front pieces known =
    subst (λ l. IsKnownTo known_to (varint_at l)) (sym (concat-append front pieces)) (known_more known_to (concat front) (concat pieces) known)

-- What the frame under way says of all pieces.
pub is_passing : (known_to : FrameKinds) (passing gone : ℕ) (front pieces : List (List ℕ)) → AreLetGo known_to passing gone front → IsPassing (record { pieces = front ++ pieces; passing = passing; known_to = known_to })
is_passing known_to passing gone front pieces h = record {
  plain = h.plain;
  unknown = λ some. size_with_more _ front pieces passing (h.unknown some);
  known = λ some. known_with_more known_to front pieces (h.known some);
}

pub passing_by : (kinds : FrameKinds) (s : Sparing) (size : ℕ) → IsPassing s → 0 < size → size ≡ s.passing → suits s.known_to kinds ≡ true → unknown_size kinds (concat s.pieces) ≡ Some size
passing_by kinds s size is some e fits = unknown_suits s.known_to kinds (concat s.pieces) size fits (is.unknown (omega (arith, some, e)) ∙ ap Some (sym e))

-- more of the frame is let go
pub more_let_go : (known_to : FrameKinds) (passing gone : ℕ) (front pieces : List (List ℕ)) → AreLetGo known_to passing gone front → gone + length (concat pieces) < passing → AreLetGo known_to passing (gone + length (concat pieces)) (front ++ pieces)
more_let_go known_to passing gone front pieces h few = record {
  gone_is = omega (arith, h.gone_is, size_of_both front pieces);
  none = λ e. absurd (omega (arith, e, few));
  plain = h.plain;
  unknown = λ some. size_with_more _ front pieces passing (h.unknown some);
  known = λ some. known_with_more known_to front pieces (h.known some);
  under_way = λ some. few;
}

-- and the first of it
pub known_first : (kinds known_to : FrameKinds) (bytes : List ℕ) (size : ℕ) → unknown_size kinds bytes ≡ Some size → MatchOption (varint_at bytes) (known_to ≡ no_kinds) (λ p. known_to ≡ choices_for p.0) → IsKnownTo known_to (varint_at bytes)
known_first kinds known_to bytes size is told =
    let h = unknown_head kinds bytes size is in
    let here : known_to ≡ choices_for h.kind = subst (λ o. MatchOption o (known_to ≡ no_kinds) (λ p. known_to ≡ choices_for p.0)) h.kind_at told in
    subst (IsKnownTo known_to) (sym h.kind_at) here

pub first_let_go : (kinds known_to : FrameKinds) (size : ℕ) (pieces : List (List ℕ)) → unknown_size kinds (concat pieces) ≡ Some size → IsKnownTo known_to (varint_at (concat pieces)) → length (concat pieces) < size → AreLetGo known_to size (length (concat pieces)) pieces
first_let_go kinds known_to size pieces is known few = record {
  gone_is = refl;
  none = λ e. absurd (omega (arith, e, few));
  plain = λ e. absurd (omega (arith, e, few));
  unknown = λ some. let_go kinds known_to (concat pieces) size is known;
  known = λ some. known;
  under_way = λ some. few;
}

-- nothing
pub none_let_go : AreLetGo no_kinds 0 0 []
none_let_go = record { gone_is = refl; none = λ e. refl; plain = λ e. refl; unknown = λ some. absurd (omega (arith, some)); known = λ some. absurd (omega (arith, some)); under_way = λ some. absurd (omega (arith, some)) }

pub none_says : (number : ℕ) (bytes : List ℕ) → SaysLength 0 number bytes
none_says number bytes some = absurd (omega (arith, some))

pub gone_and_kept : (known_to : FrameKinds) (passing gone kept : ℕ) (front pieces : List (List ℕ)) → AreLetGo known_to passing gone front → kept ≡ length (concat pieces) → gone + kept ≡ length (concat (front ++ pieces))
gone_and_kept known_to passing gone kept front pieces h is = omega (arith, h.gone_is, is, size_of_both front pieces)

-- whether it goes on behind what came
pub longer_of : (kinds : FrameKinds) (bytes : List ℕ) (len : ℕ) (size : Option ℕ) → len ≡ length bytes → unknown_size kinds bytes ≡ size → is_longer len size ≡ is_under_way kinds bytes
longer_of kinds bytes len size e is = ap (λ n. is_longer n size) e ∙ ap (is_longer (length bytes)) (sym is)

-- Fewer bytes are there than a try needs.
pub still_untried : (kinds : FrameKinds) (old new : UnreadFrames) → Expects kinds old.decoder (concat old.pieces) → length (concat old.pieces) < needed old.decoder → new.pieces ≡ old.pieces → 0 < new.passing → new.decoder ≡ old.decoder → IsStillUnderWay kinds old new
still_untried kinds old new h few same passing decoder =
    let waits = too_few kinds old.decoder.expected old.decoder.tries (concat old.pieces) h few in
    record { pieces = same; passing = passing; gives = (sym waits.0, waits.1); counts = no_try old.decoder new.decoder (concat old.pieces) few decoder }

-- A try finds less than the frame.
pub still_tried : (kinds : FrameKinds) (old new : UnreadFrames) (size : ℕ) → needed old.decoder ≤ length (concat old.pieces) → unknown_size kinds (concat old.pieces) ≡ Some size → length (concat old.pieces) < size → new.pieces ≡ old.pieces
    → 0 < new.passing → new.decoder ≡ counted old.decoder (Some size) → IsStillUnderWay kinds old new
still_tried kinds old new size enough is few same passing decoder =
    let here = unknown_waits kinds (concat old.pieces) size is few in
    record {
      pieces = same;
      passing = passing;
      gives = (sym (known-other kinds (concat old.pieces) (subst IsKnown (sym here) tt)), subst IsWaiting (sym here) tt);
      counts = finds_less old.decoder new.decoder (concat old.pieces) size enough here decoder;
    }

pub still_expects : (kinds : FrameKinds) (old new : Decoding) (size : ℕ) (bytes : List ℕ) → Expects kinds old bytes → needed old ≤ length bytes → unknown_size kinds bytes ≡ Some size → length bytes < size → new ≡ counted old (Some size) → Expects kinds new bytes
still_expects kinds old new size bytes h enough is few decoder =
    expects_next kinds old new size bytes bytes h enough (unknown_waits kinds bytes size is few) (λ none. absurd (truth_apart (sym (unknown_has_head kinds bytes size is) ∙ none))) refl decoder

-- The frame is whole.
pub is_passed : (kinds : FrameKinds) (old new : UnreadFrames) (size : ℕ) → needed old.decoder ≤ length (concat old.pieces) → unknown_size kinds (concat old.pieces) ≡ Some size → size ≤ length (concat old.pieces)
    → concat new.pieces ≡ drop size (concat old.pieces) → IsRest old.pieces new.pieces → new.passing ≡ 0 → new.known_to ≡ no_kinds → new.decoder ≡ counted old.decoder None → IsPassed kinds old new
is_passed kinds old new size enough is all left rest none plain decoder =
    let whole = unknown_whole kinds (concat old.pieces) size is all in
    record { kind = whole.0; enough = enough; unknown = whole.1 ∙ ap (Unknown whole.0) (sym left); rest = rest; none = none; plain = plain; decoder = decoder }

past_known : (kinds : FrameKinds) (r : Result (Option (Frame PayloadLen)) FrameStreamError) (old mid new : List ℕ) → known_by kinds old ≡ known_by kinds mid → Gives kinds r mid new → Gives kinds r old new
past_known kinds (Ok (Some f)) old mid new k g = ap (frame_by kinds) k ∙ g
past_known kinds (Ok None) old mid new k g = (g.0 ∙ sym k, g.1)
past_known kinds (Err (stream.Proto e)) old mid new k g = (g.0 ∙ sym k, g.1)
past_known kinds (Err stream.OutOfMemory) old mid new k g = (g.0 ∙ sym k, g.1)
past_known kinds (Err (stream.Quic e)) old mid new k g = absurd g
past_known kinds (Err stream.UnexpectedEnd) old mid new k g = absurd g

-- What is given behind it is given.
pub gives_past : (kinds : FrameKinds) (r : Result (Option (Frame PayloadLen)) FrameStreamError) (old mid : UnreadFrames) (new : List ℕ) → IsPassed kinds old mid → Gives kinds r (concat mid.pieces) new → Gives kinds r (concat old.pieces) new
gives_past kinds r old mid new p g = past_known kinds r (concat old.pieces) (concat mid.pieces) new (known-unknown kinds p.kind (concat old.pieces) (concat mid.pieces) p.unknown) g

pub counts_past : (kinds : FrameKinds) (r : Result (Option (Frame PayloadLen)) FrameStreamError) (old mid : UnreadFrames) (new : Decoding) → IsPassed kinds old mid → Counts kinds mid.decoder (concat mid.pieces) r new → Counts kinds old.decoder (concat old.pieces) r new
counts_past kinds r old mid new p c = passes old.decoder new (concat old.pieces) (concat mid.pieces) p.kind r p.enough p.unknown (subst (λ (d : Decoding). Counts kinds d (concat mid.pieces) r new) p.decoder c)

pub pieces_past : (kinds : FrameKinds) (old mid : UnreadFrames) (new : List (List ℕ)) → IsPassed kinds old mid → new ≡ ending (length (concat new)) mid.pieces → new ≡ ending (length (concat new)) old.pieces
pieces_past kinds old mid new p e = rest_is (length (concat new)) old.pieces new refl (rest_then old.pieces mid.pieces new p.rest (ending_rest (length (concat new)) mid.pieces new e))

-- what is decoded makes the bytes fewer
pub decoded_fits : (kinds : FrameKinds) (r : Result (Option (Frame PayloadLen)) FrameStreamError) (front old new : List (List ℕ)) (most : ℕ) → Gives kinds r (concat old) (concat new) → length (concat (front ++ old)) < most → length (concat (front ++ new)) < most
decoded_fits kinds r front old new most g fits = omega (arith, gives_fewer kinds r (concat old) (concat new) g, size_of_both front old, size_of_both front new, fits)

-- and so does any rest of them
pub rest_fits : (front old new : List (List ℕ)) (most : ℕ) → IsRest old new → length (concat (front ++ old)) < most → length (concat (front ++ new)) < most
rest_fits front old new most r fits =
    let fewer : length (concat new) ≡ length (concat old) - r.0 = ap length (ap concat r.2 ∙ concat-without r.0 old) ∙ length-drop r.0 (concat old) in
    omega (arith, fewer, size_of_both front old, size_of_both front new, fits)

-- with nothing in front none is under way, and all is kept
pub none_spared : (passing gone : ℕ) (kept : List (List ℕ)) → passing ≡ 0 → IsSpared passing gone kept
none_spared passing gone kept e some = absurd (omega (arith, e, some))

pub not_empty : (kinds : FrameKinds) (bytes : List ℕ) → length bytes ≡ 0 → is_under_way kinds bytes ≡ true → ⊥
unfolding unknown_size
not_empty kinds [] e h = let wrong : false ≡ true = sym (ap (λ o. is_longer 0 (size_by kinds 0 o)) none_at_end) ∙ h in cc
not_empty kinds (b ∷ bytes) e h = omega (arith, e)

pub none_gone : (known_to : FrameKinds) (passing gone : ℕ) (front : List (List ℕ)) → AreLetGo known_to passing gone front → passing ≡ 0 → gone ≡ 0
none_gone known_to passing gone front h e = h.gone_is ∙ ap (λ f. length (concat f)) (h.none e)

pub none_in_front : (known_to : FrameKinds) (passing gone : ℕ) (front pieces : List (List ℕ)) → AreLetGo known_to passing gone front → passing ≡ 0 → concat pieces ≡ concat (front ++ pieces)
none_in_front known_to passing gone front pieces h e = ap (λ f. concat (f ++ pieces)) (sym (h.none e))

concat_with_piece : (pieces : List (List ℕ)) (bytes : List ℕ) → concat (with_piece pieces bytes) ≡ concat pieces ++ bytes
concat_with_piece pieces [] = sym (append-nil (concat pieces))
concat_with_piece pieces (b ∷ bytes) = concat-append pieces ((b ∷ bytes) ∷ []) ∙ ap (λ l. concat pieces ++ l) (append-nil (b ∷ bytes))

-- more bytes came, or not
pub pushed_bytes : {A E : Type 0} (r : Result A E) (old new : Sparing) (bytes : List ℕ) → OnOk r (new ≡ record old { pieces = with_piece old.pieces bytes }) → OnOk r (concat new.pieces ≡ concat old.pieces ++ bytes)
pushed_bytes (Ok value) old new bytes e = ap (λ (s : Sparing). concat s.pieces) e ∙ concat_with_piece old.pieces bytes
pushed_bytes (Err why) old new bytes e = tt

pub pushed_same : {A E : Type 0} (r : Result A E) (old new : Sparing) → OnErr r (new ≡ old) → OnErr r (new.pieces ≡ old.pieces)
pushed_same (Ok value) old new e = tt
pushed_same (Err why) old new e = ap (λ (s : Sparing). s.pieces) e

pub pushed_known : {A E : Type 0} (r : Result A E) (old new : Sparing) (bytes : List ℕ) → OnOk r (new ≡ record old { pieces = with_piece old.pieces bytes }) → OnErr r (new ≡ old) → new.known_to ≡ old.known_to
pushed_known (Ok value) old new bytes e same = ap (λ (s : Sparing). s.known_to) e
pushed_known (Err why) old new bytes e same = ap (λ (s : Sparing). s.known_to) same

-- all that is kept was let go
pub all_let_go : (front pieces gone kept : List (List ℕ)) → gone ≡ front ++ pieces → kept ≡ [] → gone ++ kept ≡ front ++ pieces
all_let_go front pieces gone kept is none = ap (λ k. gone ++ k) none ∙ append-nil gone ∙ is

-- nothing is taken
pub pieces_stay : (old new : List (List ℕ)) → new ≡ old → new ≡ ending (length (concat new)) old
pieces_stay old new e = rest_is (length (concat new)) old new refl (rest_same old new e)

-- With none under way what is expected is expected of what is kept, and the other way round.
pub plain_expects : (known_to : FrameKinds) (passing gone : ℕ) (front kept : List (List ℕ)) (s : Sparing) (d : Decoding) → AreLetGo known_to passing gone front → record { pieces = front ++ kept; passing = passing; known_to = known_to } ≡ s → s.passing ≡ 0
    → Expects (let_go_by s.known_to) d (concat s.pieces) → Expects plain_frames d (concat kept)
plain_expects known_to passing gone front kept s d h is none expects =
    let zero : passing ≡ 0 = ap (λ (x : Sparing). x.passing) is ∙ none in
    let plain : s.known_to ≡ no_kinds = sym (ap (λ (x : Sparing). x.known_to) is) ∙ h.plain zero in
    let all : concat kept ≡ concat s.pieces = none_in_front known_to passing gone front kept h zero ∙ ap (λ (x : Sparing). concat x.pieces) is in
    subst (λ l. Expects plain_frames d l) (sym all)
    (expects_within (let_go_by no_kinds) plain_frames d (concat s.pieces) (λ e. refl) (subst (λ (k : FrameKinds). Expects (let_go_by k) d (concat s.pieces)) plain expects))

pub expects_plain : (known_to : FrameKinds) (passing gone : ℕ) (front kept : List (List ℕ)) (d : Decoding) → AreLetGo known_to passing gone front → passing ≡ 0 → Expects plain_frames d (concat kept) → Expects (let_go_by known_to) d (concat (front ++ kept))
expects_plain known_to passing gone front kept d h none expects =
    subst (λ l. Expects (let_go_by known_to) d l) (none_in_front known_to passing gone front kept h none) (expects_within plain_frames (let_go_by known_to) d (concat kept) (λ e. refl) expects)
