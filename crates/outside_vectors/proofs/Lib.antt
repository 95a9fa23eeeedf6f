pub mod FakeFile
