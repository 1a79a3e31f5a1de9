-- What becomes of the errors of a line's parts.
use Rattle.std.specs.Prelude.{ℕ}
use Rattle.http.specs.declared.method.MethodError.{MethodError}
use Rattle.http.specs.declared.method.MethodError.TheVariants as method_error
use Rattle.http_header.specs.declared.name.HeaderNameError.{HeaderNameError}
use Rattle.http_header.specs.declared.name.HeaderNameError.TheVariants as name_error
use Rattle.http_header.specs.declared.value.HeaderValueError.{HeaderValueError}
use Rattle.http_header.specs.declared.value.HeaderValueError.TheVariants as value_error
use Rattle.http_uri.specs.declared.error.UriError.{UriError}
use Rattle.http_uri.specs.declared.error.UriError.TheVariants as uri_error
use Rattle.h3_header.specs.declared.headers.error.HeaderError.{HeaderError}
use Rattle.h3_header.specs.declared.headers.error.HeaderError.TheVariants as header_error
use Rattle.h3_script.specs.declared.error.LineError.{LineError}
use Rattle.h3_script.specs.declared.error.LineError.TheVariants as line_error
use Rattle.h3_script.specs.declared.error.ScriptError.{ScriptError}
use Rattle.h3_script.specs.declared.error.ScriptError.TheVariants as script_error

abbrev pub refusal_at : ℕ → LineError → ScriptError
refusal_at number line_error.NoSuchLine = script_error.Line number
refusal_at number line_error.OutOfMemory = script_error.OutOfMemory

abbrev pub name_refusal : HeaderNameError → LineError
name_refusal name_error.Invalid = line_error.NoSuchLine
name_refusal name_error.OutOfMemory = line_error.OutOfMemory

abbrev pub value_refusal : HeaderValueError → LineError
value_refusal value_error.Invalid = line_error.NoSuchLine
value_refusal value_error.OutOfMemory = line_error.OutOfMemory

abbrev pub method_refusal : MethodError → LineError
method_refusal method_error.Invalid = line_error.NoSuchLine
method_refusal method_error.OutOfMemory = line_error.OutOfMemory

abbrev pub uri_refusal : UriError → LineError
uri_refusal (uri_error.Invalid e) = line_error.NoSuchLine
uri_refusal uri_error.OutOfMemory = line_error.OutOfMemory

abbrev pub header_refusal : HeaderError → LineError
header_refusal header_error.OutOfMemory = line_error.OutOfMemory
header_refusal _ = line_error.NoSuchLine
