-- What a call of `decode` gives where the bytes begin with an encoding.
use Rattle.std.proofs.Common.{◌≡◌, ℕ, List, ◌++◌, Result, Ok, Err, IfOk, IfErr, ap, sym, ◌∙◌}
use Rattle.std.proofs.lemmas.List.{append_cancel_left}
use Rattle.h3_coding.specs.declared.coding.UnexpectedEnd.{UnexpectedEnd}
use Rattle.h3_coding.specs.Reading.{Takes}

pub reads_whole : {T : Type 0} (Is : T → List ℕ → Type 0) (IsShort : List ℕ → ℕ → List ℕ → Type 0) → ((v w : T) (t u r s : List ℕ) → Is v t → Is w u → t ++ r ≡ u ++ s → (v ≡ w) × (t ≡ u)) → ((v : T) (t r left : List ℕ) (count : ℕ) → Is v t → IsShort (t ++ r) count left → ⊥) → (result : Result T UnexpectedEnd) (old new : List ℕ) → IfOk result (λ v. Takes (Is v) old new) → IfErr result (λ e. IsShort old e.0 new) → (v : T) (octets rest : List ℕ) → Is v octets → old ≡ octets ++ rest → (result ≡ Ok v) × (new ≡ rest)
reads_whole Is IsShort one fin (Ok w) old new ok err v octets rest p e =
    let joined : octets ++ rest ≡ ok.octets ++ new = sym e ∙ ok.parts in
    let same = one v w octets ok.octets rest new p ok.is_encoding joined in
    let tails : ok.octets ++ new ≡ ok.octets ++ rest = sym joined ∙ ap (λ x. x ++ rest) same.1 in
    (ap (λ x. Ok x) (sym same.0), append_cancel_left ok.octets new rest tails)
reads_whole Is IsShort one fin (Err d) old new ok err v octets rest p e =
    absurd (fin v octets rest new d.0 p (rw e at err))
