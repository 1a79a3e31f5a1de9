-- What is written behind the bytes of a vector, and cut off behind what was written.
use Rattle.std.proofs.Common.{◌≡◌, ℕ, ◌+◌, ◌≤◌, List, ◌++◌, take, length, ◌∙◌, ap, sym, append_assoc, length-append, arith}
use Rattle.std.proofs.lemmas.List.{take-take, take-append-le, take_all}
use Rattle.std.proofs.Math.Seq.{take-append-add}

pub written_behind : (front out more tail : List ℕ) (start len count : ℕ) → start ≡ length front → len ≤ length out → start + len ≤ count
    → take (start + len) (take count (front ++ (out ++ more) ++ tail)) ≡ front ++ take len out
written_behind front out more tail start len count is within fits =
    take-take (start + len) count (front ++ (out ++ more) ++ tail) fits
    ∙ ap (λ (l : List ℕ). take (start + len) l) (append_assoc front (out ++ more) tail)
    ∙ ap (λ (k : ℕ). take (k + len) (front ++ ((out ++ more) ++ tail))) is
    ∙ take-append-add front ((out ++ more) ++ tail) len
    ∙ ap (λ (l : List ℕ). front ++ l) (ap (λ (l : List ℕ). take len l) (append_assoc out more tail) ∙ take-append-le len out (more ++ tail) within)

-- the same of a slice, of which nothing is cut off
pub written_after : (front out tail : List ℕ) (start len : ℕ) → start ≡ length front → len ≤ length out
    → take (start + len) (front ++ (out ++ tail)) ≡ front ++ take len out
written_after front out tail start len is within =
    ap (λ (k : ℕ). take (k + len) (front ++ (out ++ tail))) is
    ∙ take-append-add front (out ++ tail) len
    ∙ ap (λ (l : List ℕ). front ++ l) (take-append-le len out tail within)

-- what was kept of the bytes with more behind them is kept of the bytes
pub kept_before : (old more mid new : List ℕ) → mid ≡ old ++ more → take (length mid) new ≡ mid → take (length old) new ≡ old
kept_before old more mid new is kept =
    let size : length mid ≡ length old + length more = ap (λ (l : List ℕ). length l) is ∙ length-append old more in
    sym (take-take (length old) (length mid) new (omega (arith, size)))
    ∙ ap (λ (l : List ℕ). take (length old) l) (kept ∙ is)
    ∙ take-append-le (length old) old more (omega arith)
    ∙ take_all (length old) old (omega arith)
