-- Worked rows of responses and trailers: a field list and the rule that it breaks, computed by the definitions. Each row names the RFC section that asks it.
use Rattle.std.specs.Prelude.{◌≡◌, [], ◌∷◌, codes, Some, None, refl}
use Rattle.h3_messages.specs.Messages.{violation_of_response, violation_of_trailer}
use Rattle.h3_messages.specs.declared.violation.Violation.TheVariants.{PseudoOrder, RepeatedPseudo, WrongPseudo, MissingPseudo, ConnectionField, Status, ContentLength, TrailerField, Value}
use Rattle.h3_messages.proofs.Written.{field}

-- 200: 9114 4.3.2
pub row_151 : violation_of_response (field (codes ":status") (codes "200") ∷ []) ≡ None
unfolding violation_of_response
row_151 = refl

-- fields behind: 9114 4.3.2
pub row_152 : violation_of_response (field (codes ":status") (codes "200") ∷ field (codes "x") (codes "1") ∷ []) ≡ None
unfolding violation_of_response
row_152 = refl

-- 404: 9114 4.3.2
pub row_153 : violation_of_response (field (codes ":status") (codes "404") ∷ []) ≡ None
unfolding violation_of_response
row_153 = refl

-- 600: 9110 15
pub row_154 : violation_of_response (field (codes ":status") (codes "600") ∷ []) ≡ None
unfolding violation_of_response
row_154 = refl

-- 999: 9110 15
pub row_155 : violation_of_response (field (codes ":status") (codes "999") ∷ []) ≡ None
unfolding violation_of_response
row_155 = refl

-- 103 then 200: 9114 4.1
pub row_156 : violation_of_response (field (codes ":status") (codes "103") ∷ []) ≡ None
unfolding violation_of_response
row_156 = refl

-- 100, 103, 200: 9114 4.1
pub row_157 : violation_of_response (field (codes ":status") (codes "100") ∷ []) ≡ None
unfolding violation_of_response
row_157 = refl

-- 101: 9114 4.5
pub row_158 : violation_of_response (field (codes ":status") (codes "101") ∷ []) ≡ Some Status
unfolding violation_of_response
row_158 = refl

-- without :status: 9114 4.3.2
pub row_159 : violation_of_response (field (codes "x") (codes "1") ∷ []) ≡ Some MissingPseudo
unfolding violation_of_response
row_159 = refl

-- no fields: 9114 4.3.2
pub row_160 : violation_of_response ([]) ≡ Some MissingPseudo
unfolding violation_of_response
row_160 = refl

-- two :status: 9114 4.3
pub row_161 : violation_of_response (field (codes ":status") (codes "200") ∷ field (codes ":status") (codes "404") ∷ []) ≡ Some RepeatedPseudo
unfolding violation_of_response
row_161 = refl

-- two :status alike: 9114 4.3
pub row_162 : violation_of_response (field (codes ":status") (codes "200") ∷ field (codes ":status") (codes "200") ∷ []) ≡ Some RepeatedPseudo
unfolding violation_of_response
row_162 = refl

-- :status behind a regular field: 9114 4.3
pub row_163 : violation_of_response (field (codes "x") (codes "1") ∷ field (codes ":status") (codes "200") ∷ []) ≡ Some PseudoOrder
unfolding violation_of_response
row_163 = refl

-- with :method: 9114 4.3
pub row_164 : violation_of_response (field (codes ":status") (codes "200") ∷ field (codes ":method") (codes "GET") ∷ []) ≡ Some WrongPseudo
unfolding violation_of_response
row_164 = refl

-- with :scheme: 9114 4.3
pub row_165 : violation_of_response (field (codes ":status") (codes "200") ∷ field (codes ":scheme") (codes "https") ∷ []) ≡ Some WrongPseudo
unfolding violation_of_response
row_165 = refl

-- with :authority: 9114 4.3
pub row_166 : violation_of_response (field (codes ":status") (codes "200") ∷ field (codes ":authority") (codes "a") ∷ []) ≡ Some WrongPseudo
unfolding violation_of_response
row_166 = refl

-- with :path: 9114 4.3
pub row_167 : violation_of_response (field (codes ":status") (codes "200") ∷ field (codes ":path") (codes "/") ∷ []) ≡ Some WrongPseudo
unfolding violation_of_response
row_167 = refl

-- with :protocol: 9114 4.3
pub row_168 : violation_of_response (field (codes ":status") (codes "200") ∷ field (codes ":protocol") (codes "webtransport") ∷ []) ≡ Some WrongPseudo
unfolding violation_of_response
row_168 = refl

-- request at a client: 9114 4.3
pub row_169 : violation_of_response (field (codes ":method") (codes "GET") ∷ field (codes ":scheme") (codes "https") ∷ field (codes ":authority") (codes "a") ∷ field (codes ":path") (codes "/") ∷ []) ≡ Some WrongPseudo
unfolding violation_of_response
row_169 = refl

-- connection: close: 9114 4.2
pub row_170 : violation_of_response (field (codes ":status") (codes "200") ∷ field (codes "connection") (codes "close") ∷ []) ≡ Some ConnectionField
unfolding violation_of_response
row_170 = refl

-- keep-alive: timeout=5: 9114 4.2
pub row_171 : violation_of_response (field (codes ":status") (codes "200") ∷ field (codes "keep-alive") (codes "timeout=5") ∷ []) ≡ Some ConnectionField
unfolding violation_of_response
row_171 = refl

-- proxy-connection: close: 9114 4.2
pub row_172 : violation_of_response (field (codes ":status") (codes "200") ∷ field (codes "proxy-connection") (codes "close") ∷ []) ≡ Some ConnectionField
unfolding violation_of_response
row_172 = refl

-- transfer-encoding: chunked: 9114 4.2
pub row_173 : violation_of_response (field (codes ":status") (codes "200") ∷ field (codes "transfer-encoding") (codes "chunked") ∷ []) ≡ Some ConnectionField
unfolding violation_of_response
row_173 = refl

-- upgrade: h2c: 9114 4.2
pub row_174 : violation_of_response (field (codes ":status") (codes "200") ∷ field (codes "upgrade") (codes "h2c") ∷ []) ≡ Some ConnectionField
unfolding violation_of_response
row_174 = refl

-- te: trailers: 9114 4.2
pub row_175 : violation_of_response (field (codes ":status") (codes "200") ∷ field (codes "te") (codes "trailers") ∷ []) ≡ Some ConnectionField
unfolding violation_of_response
row_175 = refl

-- te: gzip: 9114 4.2
pub row_176 : violation_of_response (field (codes ":status") (codes "200") ∷ field (codes "te") (codes "gzip") ∷ []) ≡ Some ConnectionField
unfolding violation_of_response
row_176 = refl

-- 103 with connection: 9114 4.2
pub row_177 : violation_of_response (field (codes ":status") (codes "103") ∷ field (codes "connection") (codes "close") ∷ []) ≡ Some ConnectionField
unfolding violation_of_response
row_177 = refl

-- host in a response: 9110 7.2
pub row_178 : violation_of_response (field (codes ":status") (codes "200") ∷ field (codes "host") (codes "a") ∷ []) ≡ None
unfolding violation_of_response
row_178 = refl

-- length kept: 9114 4.1.2
pub row_179 : violation_of_response (field (codes ":status") (codes "200") ∷ field (codes "content-length") (codes "2") ∷ []) ≡ None
unfolding violation_of_response
row_179 = refl

-- too little: 9114 4.1.2
pub row_180 : violation_of_response (field (codes ":status") (codes "200") ∷ field (codes "content-length") (codes "5") ∷ []) ≡ None
unfolding violation_of_response
row_180 = refl

-- too much: 9114 4.1.2
pub row_181 : violation_of_response (field (codes ":status") (codes "200") ∷ field (codes "content-length") (codes "1") ∷ []) ≡ None
unfolding violation_of_response
row_181 = refl

-- two lengths alike: 9110 8.6
pub row_182 : violation_of_response (field (codes ":status") (codes "200") ∷ field (codes "content-length") (codes "2") ∷ field (codes "content-length") (codes "2") ∷ []) ≡ Some ContentLength
unfolding violation_of_response
row_182 = refl

-- length x: 9110 8.6
pub row_183 : violation_of_response (field (codes ":status") (codes "200") ∷ field (codes "content-length") (codes "x") ∷ []) ≡ Some ContentLength
unfolding violation_of_response
row_183 = refl

-- 204: 9110 15.3.5
pub row_184 : violation_of_response (field (codes ":status") (codes "204") ∷ []) ≡ None
unfolding violation_of_response
row_184 = refl

-- 204 with length 0: 9114 4.1.2
pub row_185 : violation_of_response (field (codes ":status") (codes "204") ∷ field (codes "content-length") (codes "0") ∷ []) ≡ None
unfolding violation_of_response
row_185 = refl

-- 204 with length 5: 9110 8.6
pub row_186 : violation_of_response (field (codes ":status") (codes "204") ∷ field (codes "content-length") (codes "5") ∷ []) ≡ Some ContentLength
unfolding violation_of_response
row_186 = refl

-- 304 with length 5: 9114 4.1.2
pub row_187 : violation_of_response (field (codes ":status") (codes "304") ∷ field (codes "content-length") (codes "5") ∷ []) ≡ None
unfolding violation_of_response
row_187 = refl

-- 304 with DATA: 9110 6.4.1
pub row_188 : violation_of_response (field (codes ":status") (codes "304") ∷ []) ≡ None
unfolding violation_of_response
row_188 = refl

-- 304 with length and DATA: 9110 6.4.1
pub row_189 : violation_of_response (field (codes ":status") (codes "304") ∷ field (codes "content-length") (codes "2") ∷ []) ≡ None
unfolding violation_of_response
row_189 = refl

-- 205 with DATA: 9110 15.3.6
pub row_190 : violation_of_response (field (codes ":status") (codes "205") ∷ []) ≡ None
unfolding violation_of_response
row_190 = refl

-- 103 with length: 9110 8.6
pub row_191 : violation_of_response (field (codes ":status") (codes "103") ∷ field (codes "content-length") (codes "5") ∷ []) ≡ Some ContentLength
unfolding violation_of_response
row_191 = refl

-- CONNECT refused with a body: 9114 4.4
pub row_192 : violation_of_response (field (codes ":status") (codes "403") ∷ field (codes "content-length") (codes "2") ∷ []) ≡ None
unfolding violation_of_response
row_192 = refl

-- CONNECT refused with too much: 9114 4.1.2
pub row_193 : violation_of_response (field (codes ":status") (codes "403") ∷ field (codes "content-length") (codes "1") ∷ []) ≡ None
unfolding violation_of_response
row_193 = refl

-- CONNECT refused, trailer: 9114 4.1
pub row_194 : violation_of_response (field (codes ":status") (codes "403") ∷ []) ≡ None
unfolding violation_of_response
row_194 = refl

-- CONNECT, 299: 9114 4.4
pub row_195 : violation_of_response (field (codes ":status") (codes "299") ∷ []) ≡ None
unfolding violation_of_response
row_195 = refl

-- 103 with length 0: 9110 8.6
pub row_196 : violation_of_response (field (codes ":status") (codes "103") ∷ field (codes "content-length") (codes "0") ∷ []) ≡ Some ContentLength
unfolding violation_of_response
row_196 = refl

-- a space before a value: 9114 10.3
pub response_space_around : violation_of_response (field (codes ":status") (codes "200") ∷ field (codes "x") (codes " a") ∷ []) ≡ Some Value
unfolding violation_of_response
response_space_around = refl

-- CONNECT, trailer: 9114 4.4
pub row_103 : violation_of_trailer (field (codes "x") (codes "1") ∷ []) ≡ None
unfolding violation_of_trailer
row_103 = refl

-- empty trailer: 9114 4.1
pub row_138 : violation_of_trailer ([]) ≡ None
unfolding violation_of_trailer
row_138 = refl

-- trailer with :path: 9114 4.3
pub row_139 : violation_of_trailer (field (codes ":path") (codes "/") ∷ []) ≡ Some WrongPseudo
unfolding violation_of_trailer
row_139 = refl

-- trailer with :method: 9114 4.3
pub row_140 : violation_of_trailer (field (codes ":method") (codes "GET") ∷ []) ≡ Some WrongPseudo
unfolding violation_of_trailer
row_140 = refl

-- trailer with :status: 9114 4.3
pub row_141 : violation_of_trailer (field (codes ":status") (codes "200") ∷ []) ≡ Some WrongPseudo
unfolding violation_of_trailer
row_141 = refl

-- trailer with :authority: 9114 4.3
pub row_142 : violation_of_trailer (field (codes ":authority") (codes "a") ∷ []) ≡ Some WrongPseudo
unfolding violation_of_trailer
row_142 = refl

-- trailer with late pseudo: 9114 4.3
pub row_143 : violation_of_trailer (field (codes "x") (codes "1") ∷ field (codes ":path") (codes "/") ∷ []) ≡ Some WrongPseudo
unfolding violation_of_trailer
row_143 = refl

-- trailer with connection: 9114 4.2
pub row_144 : violation_of_trailer (field (codes "connection") (codes "close") ∷ []) ≡ Some ConnectionField
unfolding violation_of_trailer
row_144 = refl

-- trailer with transfer-encoding: 9114 4.2
pub row_145 : violation_of_trailer (field (codes "transfer-encoding") (codes "chunked") ∷ []) ≡ Some ConnectionField
unfolding violation_of_trailer
row_145 = refl

-- trailer with te: 9114 4.2
pub row_146 : violation_of_trailer (field (codes "te") (codes "trailers") ∷ []) ≡ Some ConnectionField
unfolding violation_of_trailer
row_146 = refl

-- trailer with upgrade: 9114 4.2
pub row_147 : violation_of_trailer (field (codes "upgrade") (codes "h2c") ∷ []) ≡ Some ConnectionField
unfolding violation_of_trailer
row_147 = refl

-- trailer with keep-alive: 9114 4.2
pub row_148 : violation_of_trailer (field (codes "keep-alive") (codes "1") ∷ []) ≡ Some ConnectionField
unfolding violation_of_trailer
row_148 = refl

-- trailer with content-length: 9110 6.5.1
pub row_149 : violation_of_trailer (field (codes "content-length") (codes "2") ∷ []) ≡ Some TrailerField
unfolding violation_of_trailer
row_149 = refl

-- trailer with host: 9110 6.5.1
pub row_150 : violation_of_trailer (field (codes "host") (codes "a") ∷ []) ≡ Some TrailerField
unfolding violation_of_trailer
row_150 = refl

-- a space behind a value: 9114 10.3
pub trailer_space_around : violation_of_trailer (field (codes "x") (codes "a ") ∷ []) ≡ Some Value
unfolding violation_of_trailer
trailer_space_around = refl
