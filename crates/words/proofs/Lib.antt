pub mod KeywordLaws
