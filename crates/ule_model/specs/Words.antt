-- How an event changes the word of a thread, told by the event and its reply alone.
pub use Rattle.ule_types.specs.Words.{WordChange, block, point, taken_by, moved_by, blocks, change_of}
