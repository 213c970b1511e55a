-- Laws of gathered lists, which stand in `lists`.
pub use Rattle.lists.proofs.Gathers.{gather_map}
