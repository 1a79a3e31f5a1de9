-- What a run asks for of its events.
pub use Rattle.h3_world.specs.Small.{ArePlain, AreSmall}
