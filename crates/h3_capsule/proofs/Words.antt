-- Bytes in two numbers, and out of them again.
use Rattle.std.proofs.Common.{◌≡◌, ℕ, ◌≤◌, List, ◌++◌, length, take, drop, refl, arith, length-take-le}
use Rattle.std.proofs.lemmas.List.{take-append-drop, take_all, length-drop}

pub are_kept : (bytes first second : List ℕ) (len : ℕ) → length bytes ≡ 16 → len ≤ 16 → first ≡ take 8 bytes → second ≡ take 8 (drop 8 bytes)
    → take (length (take len bytes)) (first ++ second) ≡ take len bytes
are_kept bytes first second len count few low high =
    let short : length (drop 8 bytes) ≤ 8 = omega (arith, count, length-drop 8 bytes) in
    let all : first ++ second ≡ bytes = rw (low, high, take_all 8 (drop 8 bytes) short) (take-append-drop 8 bytes) in
    let within : len ≤ length bytes = rw count few in
    rw (all, length-take-le len bytes within) refl
