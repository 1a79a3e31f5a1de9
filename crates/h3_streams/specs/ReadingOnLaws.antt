-- What a reading leaves that was refused memory: what came was read up to some point, and the rest is still to be read.
use Rattle.std.specs.Prelude.{List}
use Rattle.h3_connection.specs.declared.arrival.Arrival.{Arrival}
use Rattle.h3_connection.specs.Endpoint.{EndpointHistory}
use Rattle.h3_connection.specs.PartReading.{ReadsPart}
use Rattle.h3_streams.specs.ReadingOn.{ReadsSome, Stays, Steps}

-- they are the beginning of a reading that stops later
pub part_of_some : {e next new : EndpointHistory} {arrivals more : List Arrival} → ReadsSome e arrivals next more → ReadsPart next more new → ReadsPart e arrivals new
part_of_some Stays later = later
part_of_some (Steps first others) later = ReadsPart.Goes first (part_of_some others later)
