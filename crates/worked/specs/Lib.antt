-- Document 01's worked examples, as the definitions compute them: a table of its cases, and its program `walk`.
pub mod Table
pub mod Walk
