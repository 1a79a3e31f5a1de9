-- What a `HeaderError` prints.
use Rattle.std.specs.Prelude.{ℕ, List, ◌++◌, codes, string_bytes}
use Rattle.h3_header.specs.declared.headers.error.HeaderError.{HeaderError}
use Rattle.h3_header.specs.declared.headers.error.HeaderError.TheVariants.{InvalidHeaderName, InvalidHeaderValue, InvalidRequest, MissingMethod, MissingStatus, MissingAuthority, ContradictedAuthority, TooManyFields, OutOfMemory}

abbrev pub error_text : HeaderError → List ℕ
error_text (InvalidHeaderName text) = codes "invalid header name: " ++ string_bytes text
error_text (InvalidHeaderValue text) = codes "invalid header value: " ++ string_bytes text
error_text InvalidRequest = codes "invalid request"
error_text MissingMethod = codes "missing method in request headers"
error_text MissingStatus = codes "missing status in response headers"
error_text MissingAuthority = codes "missing authority"
error_text ContradictedAuthority = codes "uri and authority field are in contradiction"
error_text TooManyFields = codes "too many fields"
error_text OutOfMemory = codes "out of memory"
