-- What an encoded field section comes to: h3_qpack has it.
pub use Rattle.h3_qpack.specs.DecodedSection.{DecodedSection as Decoded, Fields, Missing, BadSection, decode_section}
