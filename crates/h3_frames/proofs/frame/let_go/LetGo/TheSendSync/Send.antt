-- Pieces that were let go are no memory, so they may go to another thread.
use denote.Param.Send.{IsSend, owning_send}
use Rattle.h3_frames.specs.contracts.frame.let_go.LetGo.{the_row, the_type}

pub send : IsSend the_row
send = owning_send the_type tt (λ d. tt) (λ k x w. tt)
