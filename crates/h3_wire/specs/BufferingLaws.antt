-- What holds of a source with a buffer before it.
use Rattle.std.specs.Prelude.{◌≡◌, ℕ, List, [], ◌++◌, Ok, Err, Some, None}
use Rattle.std.specs.List.{concat}
use Rattle.std.proofs.Common.{refl, sym, ◌∙◌, ap, ap₂, subst, append_assoc}
use Rattle.h3_wire.specs.declared.quic.Poll.TheVariants.{Ready, Pending}
use Rattle.h3_wire.specs.Source.{Answer, Polls, coming}
use Rattle.h3_wire.specs.Streams.{Buffered}
use Rattle.h3_wire.specs.Buffering.{left_behind, ends, AnswersFrom, buffered, ended, asked}

polls_asked : (answer : Answer) (old new : List ℕ) → Polls answer old new → Polls answer old (coming (ends answer) new)
polls_asked (Ready (Ok (Some piece))) old new h = h
polls_asked (Ready (Ok None)) old new h = (h.0, refl)
polls_asked (Ready (Err e)) old new h = h
polls_asked Pending old new h = h

pub polls_behind : {S : Type 0} (rest : S → List ℕ) (answers : S → Answer → S → Type 0) → ((s t : S) (answer : Answer) → answers s answer t → Polls answer (rest s) (rest t))
    → (s t : Buffered S) (answer : Answer) → AnswersFrom answers s answer t → Polls answer (left_behind rest s) (left_behind rest t)
polls_behind rest answers polls s t answer (buffered piece is some parts source is_eos) =
    let behind = coming s.is_eos (rest s.source) in
    let joined = ap (λ l. concat l ++ behind) parts ∙ append_assoc piece (concat t.pieces) behind ∙ ap₂ (λ e x. piece ++ (concat t.pieces ++ coming e (rest x))) (sym is_eos) (sym source) in
    subst (λ x. Polls x (left_behind rest s) (left_behind rest t)) (sym is) (some, joined)
polls_behind rest answers polls s t answer (ended is none at_end same) =
    let nothing : left_behind rest s ≡ [] = ap₂ (λ l e. concat l ++ coming e (rest s.source)) none at_end in
    subst (λ x. Polls x (left_behind rest s) (left_behind rest t)) (sym is) (nothing, ap (left_behind rest) same ∙ nothing)
polls_behind rest answers polls s t answer (asked none open_here a still_none told) =
    let before : left_behind rest s ≡ rest s.source = ap₂ (λ l e. concat l ++ coming e (rest s.source)) none open_here in
    let after : left_behind rest t ≡ coming (ends answer) (rest t.source) = ap₂ (λ l e. concat l ++ coming e (rest t.source)) still_none told in
    subst (λ l. Polls answer l (left_behind rest t)) (sym before) (subst (λ l. Polls answer (rest s.source) l) (sym after) (polls_asked answer (rest s.source) (rest t.source) (polls s.source t.source answer a)))

pub same_behind : {S : Type 0} (answers : S → Answer → S → Type 0) (id : S → ℕ) → ((s t : S) (answer : Answer) → answers s answer t → id t ≡ id s)
    → (s t : Buffered S) (answer : Answer) → AnswersFrom answers s answer t → id t.source ≡ id s.source
same_behind answers id same s t answer (buffered piece is some parts source is_eos) = ap id source
same_behind answers id same s t answer (ended is none at_end e) = ap (λ x. id x.source) e
same_behind answers id same s t answer (asked none open_here a still_none told) = same s.source t.source answer a
