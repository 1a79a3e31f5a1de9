-- What is written behind a vector is written behind what waits at its end.
use Rattle.std.proofs.Common.{◌≡◌, ℕ, ◌-◌, List, ◌++◌, length, drop, ap, ◌∙◌, arith}
use Rattle.std.proofs.lemmas.List.{drop-append-le}

pub behind_all : (waits items after more : List ℕ) → drop (length items - length waits) items ≡ waits → after ≡ items ++ more → drop (length items - length waits) after ≡ waits ++ more
behind_all waits items after more front written =
    let n = length items - length waits in
    ap (λ l. drop n l) written ∙ drop-append-le n items more (omega arith) ∙ ap (λ l. l ++ more) front
