-- Faults as text.
use Rattle.std.specs.Prelude.{ℕ, List, ◌++◌, codes}
use Rattle.std.specs.Fmt.{decimal}
use Rattle.h3_proto.specs.Codes.{code_text}
use Rattle.h3_connection.specs.declared.event.Fault.{Fault}
use Rattle.h3_connection.specs.declared.event.Fault.TheVariants as fault
use Rattle.h3_connection.specs.declared.event.StreamFault.{StreamFault}
use Rattle.h3_connection.specs.declared.event.StreamFault.TheVariants as stream_fault
use Rattle.h3_connection.specs.declared.event.Malformation.{Malformation}
use Rattle.h3_connection.specs.declared.event.Malformation.TheVariants as malformation

abbrev pub malformation_name : Malformation → List ℕ
malformation_name malformation.Name = codes "Name"
malformation_name malformation.Value = codes "Value"
malformation_name malformation.TooMany = codes "TooMany"
malformation_name malformation.WrongSide = codes "WrongSide"
malformation_name malformation.PseudoInTrailer = codes "PseudoInTrailer"
malformation_name malformation.NoHead = codes "NoHead"
malformation_name malformation.PseudoOrder = codes "PseudoOrder"
malformation_name malformation.WrongPseudo = codes "WrongPseudo"
malformation_name malformation.RepeatedPseudo = codes "RepeatedPseudo"
malformation_name malformation.ConnectionField = codes "ConnectionField"
malformation_name malformation.ContentLength = codes "ContentLength"
malformation_name malformation.Protocol = codes "Protocol"
malformation_name malformation.Connect = codes "Connect"
malformation_name malformation.MissingPseudo = codes "MissingPseudo"
malformation_name malformation.Scheme = codes "Scheme"
malformation_name malformation.Authority = codes "Authority"
malformation_name malformation.Path = codes "Path"
malformation_name malformation.Status = codes "Status"
malformation_name malformation.TrailerField = codes "TrailerField"
malformation_name malformation.TooLong = codes "TooLong"

abbrev pub stream_fault_text : StreamFault → List ℕ
stream_fault_text (stream_fault.Malformed why) = codes "malformed " ++ malformation_name why
stream_fault_text (stream_fault.Reset code) = codes "reset " ++ decimal code
stream_fault_text stream_fault.Canceled = codes "canceled"

-- the name of a connection's code, why a stream gives no more, or that memory was refused
abbrev pub fault_text : Fault → List ℕ
fault_text (fault.Connection code) = code_text code
fault_text (fault.Stream why) = stream_fault_text why
fault_text fault.Memory = codes "out of memory"
