pub mod FunctionCases
pub mod FunctionLaws
