-- Changes: what each way out of a call comes to.
pub mod Changes
