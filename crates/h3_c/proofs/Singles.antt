-- Every byte stands at its own place.
use Rattle.std.proofs.Common.{◌≡◌, ℕ, ◌+◌, ◌<◌, true, refl, arith, [], ◌∷◌}
use Rattle.std.specs.Prelude.{slice_range, bytes_eq}
use Rattle.h3_huffman.specs.PayloadLaws.{all_from_at, bytes_same}
use Rattle.h3_huffman.specs.Tables.{all_from}
use Rattle.h3_c.specs.declared.copied.TheConstants.{SINGLES}

all_single : all_from (λ byte. bytes_eq (slice_range SINGLES byte (byte + 1)) (byte ∷ [])) 0 256 ≡ true
all_single = refl

pub single_at : (byte : ℕ) → byte < 256 → slice_range SINGLES byte (byte + 1) ≡ byte ∷ []
single_at byte h = bytes_same _ _ (all_from_at (λ b. bytes_eq (slice_range SINGLES b (b + 1)) (b ∷ [])) 0 256 byte all_single (omega arith) (omega arith))
