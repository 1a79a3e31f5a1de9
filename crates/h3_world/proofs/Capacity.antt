-- The encoder goes by the announced capacity, or may name no entry yet: kept by all that changes it.
use Rattle.std.proofs.Common.{◌≡◌, inl, inr, ℕ, min, List, [], ◌∷◌, refl, sym, ap, ◌∙◌}
use Rattle.h3_field.specs.Field.{Field}
use Rattle.h3_field.specs.Instruction.{DecoderInstruction}
use Rattle.h3_field.specs.Instruction.DecoderInstruction.{Acknowledge, CancelStream, Increment}
use Rattle.h3_qpack.specs.EncoderHistory.{EncoderHistory, encoder_after, encoder_after_all}
use Rattle.h3_qpack.specs.SectionEncoding.{sent_section}
use Rattle.h3_world.specs.Following.{HasCapacity}
use Rattle.h3_world.proofs.QpackLaws.{QpackLaws}

pub capacity_sent : QpackLaws → (capacity : ℕ) (s : EncoderHistory) (stream : ℕ) (fields : List Field) → HasCapacity capacity s → HasCapacity capacity (sent_section s stream fields)
capacity_sent laws capacity s stream fields (inl e) = inl e
capacity_sent laws capacity s stream fields (inr h) = inr (h.0, laws.still_empty s stream fields h.0 h.1)

-- Reading decoder instructions changes no capacity and no limit, no insertion, and no count.
pub record SameWriting (s t : EncoderHistory) : Type 0 where
  pub most : t.most_capacity ≡ s.most_capacity
  pub announced : t.announced ≡ s.announced
  pub capacity : t.capacity ≡ s.capacity
  pub limit : t.limit ≡ s.limit
  pub inserted : t.inserted ≡ s.inserted
  pub counts : t.required_insert_counts ≡ s.required_insert_counts

one_read : (s : EncoderHistory) (i : DecoderInstruction) → SameWriting s (encoder_after s i)
one_read s (Acknowledge stream) = record { most = refl; announced = refl; capacity = refl; limit = refl; inserted = refl; counts = refl }
one_read s (CancelStream stream) = record { most = refl; announced = refl; capacity = refl; limit = refl; inserted = refl; counts = refl }
one_read s (Increment count) = record { most = refl; announced = refl; capacity = refl; limit = refl; inserted = refl; counts = refl }

pub all_read_same : (s : EncoderHistory) (is : List DecoderInstruction) → SameWriting s (encoder_after_all s is)
all_read_same s [] = record { most = refl; announced = refl; capacity = refl; limit = refl; inserted = refl; counts = refl }
all_read_same s (i ∷ is) =
    let first = one_read s i in
    let rest = all_read_same (encoder_after s i) is in
    record {
      most = rest.most ∙ first.most;
      announced = rest.announced ∙ first.announced;
      capacity = rest.capacity ∙ first.capacity;
      limit = rest.limit ∙ first.limit;
      inserted = rest.inserted ∙ first.inserted;
      counts = rest.counts ∙ first.counts;
    }

pub capacity_read : (announced : ℕ) (s t : EncoderHistory) → SameWriting s t → HasCapacity announced s → HasCapacity announced t
capacity_read announced s t same (inl e) = inl (same.announced ∙ e.0, same.capacity ∙ e.1 ∙ ap (λ m. min m announced) (sym same.most))
capacity_read announced s t same (inr h) = inr ((same.limit ∙ h.0.0, same.capacity ∙ h.0.1), same.inserted ∙ h.1)
