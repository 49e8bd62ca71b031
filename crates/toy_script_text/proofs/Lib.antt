mod AnswerLines
mod NameLists
mod Telling
