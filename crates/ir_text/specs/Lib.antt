-- The definitions that contracts cite, by what they are of.
pub use Rattle.ir_text_tokens.specs as Tokens
pub use Rattle.ir_text_tree.specs as Tree
pub use Rattle.ir_text_reader.specs as Reader
pub use Rattle.ir_text_spelling.specs as Spelling
pub use Rattle.ir_text_names.specs as Names
