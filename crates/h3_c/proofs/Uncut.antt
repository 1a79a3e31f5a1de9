-- What is told where C's bytes or list are not copied, since there is no memory for them.
use Rattle.std.proofs.Common.{arith, ◌≡◌, ℕ, ◌<◌, ◌==◌, true, false, List, [], ◌∷◌, length, Option, Some, None, refl, ap, sym, subst, ◌∙◌, inl, inr}
use Rattle.std.specs.Prelude.{◌≢◌, ◌^◌, Err, Result, unwrap_or}
use Rattle.h3_field.specs.Field.{Field}
use Rattle.h3_proto.specs.declared.config.Choices.{Choices}
use Rattle.h3_connection.specs.Endpoint.{EndpointHistory}
use Rattle.h3_connection.specs.SendingContracts.{SendsBody}
use Rattle.h3_connection.specs.State.{StandsFor}
use Rattle.h3_connection.specs.declared.event.DeliverError.{DeliverError}
use Rattle.h3_connection.specs.declared.event.Refusal.{Refusal}
use Rattle.h3_connection.specs.declared.event.Refusal.TheVariants as refusal
use Rattle.h3_connection.specs.Shutdown.{is_rejected_in}
use Rattle.h3_session.specs.Lacking.{RefusesBodies, delivery_error}
use Rattle.h3_session.specs.SendingLists.{NotMalformed}
use Rattle.h3_webtransport.specs.Receiving.{DeliversOn as DeliversBeside, RefusesDeliveriesOn}
use Rattle.h3_c.specs.Exported.{Calls, DeliversOn, OnStream, SendsCut}
use Rattle.h3_c.specs.Giving.{RefusesFields}
use Rattle.h3_c.specs.Numbers.{TellsList, body_told, delivery_told, refusal_told, told_or_memory}
use Rattle.h3_c.specs.Reads.{is_kept}
use Rattle.h3_c.specs.Seen.{Seen}
use Rattle.h3_c.specs.declared.numbers.Told.{Told}

pub told_same : (o : Option Refusal) → told_or_memory o ≡ refusal_told (unwrap_or o refusal.OutOfMemory)
told_same None = refl
told_same (Some r) = refl

-- a body
pub body_lacks : (v : Seen) (id stream size : ℕ) (bytes : List ℕ) (o : Option Refusal) (n : Told) → stream ≡ id → id < 2 ^ 62 → RefusesBodies v.endpoint stream size o → length bytes ≡ size
    → n ≡ told_or_memory o → OnStream id n v v (Calls body_told n v v (λ call. SendsBody v.endpoint v.endpoint id bytes call))
body_lacks v id stream size bytes o n same below refuses len is =
    let here : RefusesBodies v.endpoint id size o = subst (λ i. RefusesBodies v.endpoint i size o) same refuses in
    record {
      known = λ _. record { answer = Err (unwrap_or o refusal.OutOfMemory, bytes); is = is ∙ told_same o; done = here bytes len; last = refl; events = refl };
      unknown = λ above. absurd (omega (arith, below, above));
    }

-- what came
pub delivery_same : (o : Option Refusal) (bytes : List ℕ) → told_or_memory o ≡ (let r : Result Unit DeliverError = Err (delivery_error o bytes) in delivery_told r)
delivery_same None bytes = refl
delivery_same (Some r) bytes = refl

pub delivery_lacks : (v : Seen) (id stream : ℕ) (bytes : List ℕ) (o : Option Refusal) (n : Told) → stream ≡ id → id < 2 ^ 62 → is_rejected_in v.endpoint id ≡ false
    → RefusesDeliveriesOn v.endpoint v.sessions stream o → n ≡ told_or_memory o → DeliversOn delivery_told id n v v (λ call. DeliversBeside v.endpoint v.endpoint v.sessions v.sessions id bytes call)
delivery_lacks v id stream bytes o n same below goes_on refuses is =
    let here : RefusesDeliveriesOn v.endpoint v.sessions id o = subst (λ i. RefusesDeliveriesOn v.endpoint v.sessions i o) same refuses in
    record {
      known = λ _. record {
        taken = λ _. record { answer = Err (delivery_error o bytes); is = is ∙ delivery_same o bytes; done = here bytes; last = refl; events = refl };
        refused = λ rejected. absurd (let wrong : false ≡ true = sym goes_on ∙ rejected in cc);
      };
      unknown = λ above. absurd (omega (arith, below, above));
    }

-- what came, of a read
pub not_kept : (o : Option Refusal) (bytes : List ℕ) → false ≡ is_kept (delivery_error o bytes)
not_kept None bytes = refl
not_kept (Some r) bytes = refl

pub some_bytes : (bytes : List ℕ) → (length bytes == 0) ≡ false → 0 < length bytes
some_bytes [] h = absurd (let wrong : true ≡ false = h in cc)
some_bytes (byte ∷ bytes) h = omega (arith)

-- what no rule of messages refuses is told of a list as of any call
plainly_told : (r : Refusal) (choices : Choices) (fields : List Field) (n : Told) → NotMalformed (Some r) → n ≡ refusal_told r → TellsList (Err r) choices fields n
plainly_told (refusal.Malformed why) choices fields n rules is = absurd rules
plainly_told _ choices fields n rules is = is

-- A list: the sizes are not those of the bytes,
module _ (v : Seen) (place : EndpointHistory → Option Refusal) (does : List Field → Result Unit Refusal → Type 0) (told : Told) where
  pub no_sizes : told.number ≡ 32 → (cut : Option (List Field)) → RefusesFields cut told → SendsCut cut place told v v does
  no_sizes is None h = (h, refl)
  no_sizes is (Some fields) h = absurd (let wrong : 18 ≡ 32 = sym (ap (λ (n : Told). n.number) h.0) ∙ is in omega (arith, wrong))

  -- or its stream takes none,
  pub not_taken : (n : Told) (r : Refusal) → told.number ≢ 32 → NotMalformed (Some r) → ((fields : List Field) → does fields (Err r)) → n ≡ refusal_told r
      → (cut : Option (List Field)) → RefusesFields cut told → SendsCut cut place n v v does
  not_taken n r differs plain refuses is None h = absurd (differs (ap (λ (n : Told). n.number) h))
  not_taken n r differs plain refuses is (Some fields) h = inr (record { answer = Err r; is = plainly_told r v.endpoint.announced.choices fields n plain is; done = refuses fields; last = refl; events = refl })

  -- or there is no memory for it
  pub no_room : told.number ≢ 32 → ((e : EndpointHistory) → StandsFor v.endpoint e → place e ≡ None) → (cut : Option (List Field)) → RefusesFields cut told → SendsCut cut place told v v does
  no_room differs takes None h = absurd (differs (ap (λ (n : Told). n.number) h))
  no_room differs takes (Some fields) h = inl (record { told = h.0; same = refl; some = h.1; takes = takes })
