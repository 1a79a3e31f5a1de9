-- The id of the next request, as the endpoint tells it.
use Rattle.std.proofs.Common.{◌≡◌, ℕ, subst}
use Rattle.std.specs.Prelude.{Ok, Err}
use Rattle.h3_connection.specs.declared.event.Refusal.{Refusal}
use Rattle.h3_session.specs.NextRequest.{ShowsNextRequest}
use Rattle.h3_c.specs.declared.numbers.Told.{Told}
use Rattle.h3_c.specs.Exported.{GivesId, ShowsNextId}
use Rattle.h3_c.specs.Numbers.{ok, refusal_told}
use Rattle.h3_c.specs.Seen.{Seen}

pub shows_id : (v : Seen) (id : ℕ) (n : Told) (before after : ℕ) → ShowsNextRequest v.endpoint (Ok id) → n ≡ ok → after ≡ id → ShowsNextId v n before after
shows_id v id n before after h is same = λ e stands. subst (λ r. GivesId r n before after) (h e stands) (is, same)

pub shows_refusal : (v : Seen) (r : Refusal) (n : Told) (before after : ℕ) → ShowsNextRequest v.endpoint (Err r) → n ≡ refusal_told r → after ≡ before → ShowsNextId v n before after
shows_refusal v r n before after h is same = λ e stands. subst (λ q. GivesId q n before after) (h e stands) (is, same)
