-- A front of what is held of the encoder stream is read: by the endpoint behind too, or it reads nothing.
use Rattle.std.proofs.Common.{◌≡◌, ◌⊎◌, inl, inr, ℕ, ◌-◌, true, false, List, [], ◌∷◌, ◌++◌, refl, sym, ap, ◌∙◌, arith, append-nil, if◌then◌else◌}
use Rattle.std.specs.Prelude.{◌==◌}
use Rattle.std.proofs.lemmas.Grind.{common_steps}
use Rattle.h3_qpack.specs.DecoderState.{DecoderState}
use Rattle.h3_qpack.specs.Hearing.{Heard, heard}
use Rattle.h3_connection.specs.declared.arrival.Arrival.{Arrival}
use Rattle.h3_connection.specs.Control.{increment, read_encoder}
use Rattle.h3_connection.specs.Endpoint.{EndpointHistory, limit_of, replied}
use Rattle.h3_connection.specs.ExcessiveInstructions.{hear_up_to}
use Rattle.h3_connection.specs.Incoming.{Incoming}
use Rattle.h3_connection.specs.Listeners.{Decoding}
use Rattle.h3_connection.specs.PartReading.{HearsPart}
use Rattle.h3_connection.specs.StreamSets.{Streams}
use Rattle.h3_memory.specs.Kept.{Delivery}
use Rattle.h3_memory.specs.Keeping.{Held, ahead}

-- one list in two ways
pub data Splits (xs ys front rest : List ℕ) : Type 0 where
  -- the front ends in the second part
  Beyond : (read : List ℕ) → front ≡ xs ++ read → ys ≡ read ++ rest → Splits xs ys front rest
  -- or in the first one
  Within : (left : List ℕ) → xs ≡ front ++ left → rest ≡ left ++ ys → Splits xs ys front rest

first_same : (x y : ℕ) (xs ys : List ℕ) → x ∷ xs ≡ y ∷ ys → (x ≡ y) × (xs ≡ ys)
first_same x y xs ys e = (cc, cc)

pub splits : (xs ys front rest : List ℕ) → xs ++ ys ≡ front ++ rest → Splits xs ys front rest
splits [] ys front rest e = Beyond front refl e
splits (x ∷ xs) ys [] rest e = Within (x ∷ xs) refl (sym e)
splits (x ∷ xs) ys (y ∷ front) rest e =
    let p = first_same x y (xs ++ ys) (front ++ rest) e in
    behind p.0 (splits xs ys front rest p.1)
  where
    behind : x ≡ y → Splits xs ys front rest → Splits (x ∷ xs) ys (y ∷ front) rest
    behind same (Beyond read is more) = Beyond read (ap (λ l. y ∷ l) is ∙ ap (λ z. z ∷ (xs ++ read)) (sym same)) more
    behind same (Within left is more) = Within left (ap (λ l. x ∷ l) is ∙ ap (λ z. z ∷ (front ++ left)) same) more

module _ (mine : List Delivery) (incoming : Streams Incoming) (kept : List Arrival) (behind : EndpointHistory) where
  -- the endpoint after so much was read
  abbrev pub read_to : EndpointHistory → Decoding → EndpointHistory
  read_to e d = replied (record e { decoding = d }) (increment (d.decoder.table.inserted - e.decoding.decoder.table.inserted))

  -- What the endpoint behind reads of it, with what is then held; or nothing.
  pub record ReadsHeld (held : Held) (new : EndpointHistory) : Type 0 where
    pub read : List ℕ
    pub left : List ℕ
    pub all : held.encoder ≡ read ++ left
    pub is : (new ≡ ahead (read_encoder behind read).0 mine (record held { encoder = left }) incoming kept) ⊎ ((read ≡ []) × (new ≡ ahead behind mine held incoming kept))

  none_more : (n : ℕ) → increment (n - n) ≡ []
  none_more n = ap (λ b. if b then [] else Rattle.h3_field.specs.Instruction.DecoderInstruction.Increment (n - n) ∷ []) (nothing n)
    where
      nothing : (n : ℕ) → (n - n == 0) ≡ true
      nothing n = grind (arith, common_steps)

  -- **A front of what is held and of what was left of an instruction, where such fronts of the latter are no instruction.**
  pub hears_held : (held : Held) (d : Decoding) → HearsPart (limit_of behind) (ahead behind mine held incoming kept).decoding d
      → ((front left : List ℕ) → behind.decoding.unread ≡ front ++ left → hear_up_to (limit_of behind) behind.decoding.decoder front ≡ heard behind.decoding.decoder front false)
      → ReadsHeld held (read_to (ahead behind mine held incoming kept) d)
  hears_held held d h unfinished = by_split (splits behind.decoding.unread held.encoder h.front h.rest h.cut)
    where
      f : EndpointHistory
      f = ahead behind mine held incoming kept

      D : DecoderState
      D = behind.decoding.decoder

      after : List ℕ → List ℕ → Decoding
      after front rest = record { decoder = (hear_up_to (limit_of behind) D front).decoder; unread = (hear_up_to (limit_of behind) D front).left ++ rest }

      by_split : Splits behind.decoding.unread held.encoder h.front h.rest → ReadsHeld held (read_to f d)
      by_split (Beyond read is more) =
          record {
            read = read;
            left = h.rest;
            all = more;
            is = inl (ap (read_to f) h.left ∙ ap (λ l. read_to f (after l h.rest)) is);
          }
      by_split (Within left is more) =
          let nothing = unfinished h.front left is in
          let same : after h.front h.rest ≡ f.decoding =
          ap (λ (x : Heard). record { decoder = x.decoder; unread = x.left ++ h.rest }) nothing
          ∙ ap (λ l. record { decoder = D; unread = l }) (sym h.cut) in
          record {
            read = [];
            left = held.encoder;
            all = refl;
            is = inr (
              refl,
              ap (read_to f) (h.left ∙ same) ∙ ap (λ l. replied f l) (none_more D.table.inserted)
                  ∙ ap (λ l. record f { own = record f.own { replies = l } }) (append-nil f.own.replies),
            );
          }
