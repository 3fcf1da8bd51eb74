pub mod Numbers
pub mod Exported
pub mod HandedOn
pub mod FunctionNames
