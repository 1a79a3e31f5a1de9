use Rattle.h3_coding.specs.Encodings.{encoding}
use Rattle.std.proofs.Common.{refl}
use Rattle.h3_scheduler.specs.Streams.{next_of}
use Rattle.h3_connection_rows.proofs.order_rows.order_rows_compute.Goals as goal

pub returns-clause-urgent : goal.returns-clause-urgent
unfolding encoding next_of
returns-clause-urgent c = refl

pub returns-clause-by_turns : goal.returns-clause-by_turns
unfolding encoding next_of
returns-clause-by_turns c = refl

pub returns-clause-one_is_over : goal.returns-clause-one_is_over
unfolding encoding next_of
returns-clause-one_is_over c = refl

pub returns-clause-one_is_held : goal.returns-clause-one_is_held
unfolding encoding next_of
returns-clause-one_is_held c = refl

pub returns-clause-no_bytes_no_turn : goal.returns-clause-no_bytes_no_turn
unfolding encoding next_of
returns-clause-no_bytes_no_turn c = refl

pub returns-clause-lowest : goal.returns-clause-lowest
unfolding encoding next_of
returns-clause-lowest c = refl

pub returns-clause-none : goal.returns-clause-none
unfolding encoding next_of
returns-clause-none c = refl

pub returns-clause-not_open : goal.returns-clause-not_open
unfolding encoding next_of
returns-clause-not_open c = refl

pub returns-clause-no_request : goal.returns-clause-no_request
unfolding encoding next_of
returns-clause-no_request c = refl

pub returns-clause-no_stream : goal.returns-clause-no_stream
unfolding encoding next_of
returns-clause-no_stream c = refl

pub returns-clause-own_stream : goal.returns-clause-own_stream
unfolding encoding next_of
returns-clause-own_stream c = refl
