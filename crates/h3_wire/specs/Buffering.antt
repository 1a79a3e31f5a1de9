-- A source with a buffer before it is a source.
use Rattle.std.specs.Prelude.{◌≡◌, ℕ, ◌<◌, Bool, true, false, List, [], ◌∷◌, ◌++◌, length, Ok, Some, None}
use Rattle.std.specs.List.{concat}
use Rattle.h3_wire.specs.declared.quic.Poll.TheVariants.{Ready}
use Rattle.h3_wire.specs.Source.{Answer, coming}
use Rattle.h3_wire.specs.Streams.{Buffered}

-- the bytes that it still gives
abbrev pub left_behind : {S : Type 0} → (S → List ℕ) → Buffered S → List ℕ
left_behind rest s = concat s.pieces ++ coming s.is_eos (rest s.source)

-- the answer tells the end
abbrev pub ends : Answer → Bool
ends (Ready (Ok None)) = true
ends _ = false

-- The first piece of what was read; or the end that was told; or, where nothing is there, what the source answers.
pub data AnswersFrom {S : Type 0} (answers : S → Answer → S → Type 0) (old : Buffered S) (answer : Answer) (new : Buffered S) : Type 0 where
  buffered : (piece : List ℕ) → answer ≡ Ready (Ok (Some piece)) → 0 < length piece → old.pieces ≡ piece ∷ new.pieces → new.source ≡ old.source → new.is_eos ≡ old.is_eos → AnswersFrom answers old answer new
  ended : answer ≡ Ready (Ok None) → old.pieces ≡ [] → old.is_eos ≡ true → new ≡ old → AnswersFrom answers old answer new
  asked : old.pieces ≡ [] → old.is_eos ≡ false → answers old.source answer new.source → new.pieces ≡ [] → new.is_eos ≡ ends answer → AnswersFrom answers old answer new
