-- What the number of a delivery tells.
use Rattle.std.proofs.Common.{◌≡◌, true, false, refl, sym, subst, Result, Ok, Err}
use Rattle.h3_connection.specs.Answers.{delivery_refused}
use Rattle.h3_connection.specs.Endpoint.{EndpointHistory}
use Rattle.h3_connection.specs.ReceivingContracts.{Receives}
use Rattle.h3_connection.specs.State.{EndpointState, StandsFor}
use Rattle.h3_connection.specs.declared.arrival.Arrival.{Arrival}
use Rattle.h3_connection.specs.declared.event.DeliverError.{DeliverError}
use Rattle.h3_connection.specs.declared.event.DeliverError.TheVariants as deliver_error
use Rattle.h3_connection.specs.declared.event.Refusal.{Refusal}
use Rattle.h3_connection.specs.declared.event.Refusal.TheVariants as refusal
use Rattle.h3_world.specs.Headline.{is_out_of_memory}
use Rattle.h3_world.specs.declared.event.Answer.{Answer}
use Rattle.h3_world.specs.declared.event.Answer.TheVariants as answer
use Rattle.h3_session.specs.Running.{answer_of, is_stored}
use Rattle.h3_c.specs.Asked.{Tells}
use Rattle.h3_c.specs.Numbers.{delivery_told, ok, refusal_told}
use Rattle.h3_c.specs.Programs.{is_taken}
use Rattle.h3_c.specs.declared.numbers.Told.{Told}
use Rattle.h3_c.proofs.Comings.{plainly}

-- whether it says that the bytes are there
told_untaken : (why : Refusal) → is_out_of_memory (answer.Refused why) ≡ false → is_taken (refusal_told why) ≡ false
told_untaken (refusal.Closed code) plain = refl
told_untaken (refusal.Connection code) plain = refl
told_untaken refusal.NotReceiving plain = refl
told_untaken refusal.AfterEnd plain = refl
told_untaken refusal.NotClient plain = refl
told_untaken (refusal.GoingAway id) plain = refl
told_untaken refusal.IdsUsedUp plain = refl
told_untaken refusal.NotOpen plain = refl
told_untaken refusal.OutOfOrder plain = refl
told_untaken refusal.WrongSide plain = refl
told_untaken refusal.PseudoInTrailer plain = refl
told_untaken (refusal.Malformed why) plain = refl
told_untaken (refusal.TooLarge size) plain = refl
told_untaken refusal.Critical plain = refl
told_untaken refusal.Ended plain = refl
told_untaken refusal.NotRequestId plain = refl
told_untaken (refusal.Raised id) plain = refl
told_untaken refusal.OutOfMemory plain = refl
told_untaken refusal.Kept plain = absurd (let never : true ≡ false = plain in cc)

pub taken_so : (old new : EndpointState) (a : Arrival) (result : Result Unit DeliverError) (e : EndpointHistory) → StandsFor old e → Receives old new a result → is_taken (delivery_told result) ≡ is_stored result
taken_so old new a (Ok done) e stands h = refl
taken_so old new a (Err (deliver_error.Refused why)) e stands h = told_untaken why (plainly e a why (sym (h.done e stands refl).0))
taken_so old new a (Err (deliver_error.OutOfMemory bytes)) e stands h = refl
taken_so old new a (Err deliver_error.Kept) e stands h = refl

-- and which answer
pub delivery_tells : (success : Answer) (n : Told) (result : Result Unit DeliverError) → Tells success ok success → n ≡ delivery_told result → Tells success n (answer_of success (delivery_refused result))
delivery_tells success n (Ok done) good is = subst (λ m. Tells success m success) (sym is) good
delivery_tells success n (Err (deliver_error.Refused why)) good is = is
delivery_tells success n (Err (deliver_error.OutOfMemory bytes)) good is = is
delivery_tells success n (Err deliver_error.Kept) good is = is
