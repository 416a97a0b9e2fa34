-- The words of the pure core that contracts over this crate cite, so that crates above need neither it nor the table among their crates.
pub use Rattle.core_state.specs.declared.table.State.{State}
pub use Rattle.core_state.specs.declared.table.State.TheVariants as state
pub use Rattle.core_state.specs.declared.schedule.Half.{Half}
pub use Rattle.core_state.specs.declared.schedule.Half.TheVariants as half
pub use Rattle.core_state.specs.declared.schedule.Offer.{Offer}
pub use Rattle.core_state.specs.declared.schedule.Offer.TheVariants as offered
pub use Rattle.core_state.specs.declared.schedule.Demand.{Demand}
pub use Rattle.core_state.specs.declared.schedule.Demand.TheVariants as demanded
pub use Rattle.core_state.specs.declared.schedule.Request.{Request}
pub use Rattle.core_state.specs.Schedule.{state_from, leftover_from}
pub use Rattle.core_state.specs.Table.{waiting_state}
pub use Rattle.core_word.specs.declared.view.Sight.{Sight}
pub use Rattle.core_word.specs.declared.view.Sight.TheVariants as seen
pub use Rattle.core_word.specs.Seen.{HomeId}
pub use Rattle.core_word.specs.Rule.{IsSet}
pub use Rattle.core_word.specs.Views.{IsAwaited, GotDemand, GotOffer}
pub use Rattle.core_word.specs.Answers.{leftover_as}
